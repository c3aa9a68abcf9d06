use Rattle.px_num.proofs.Basics.{◌≡◌, ◌+◌, ◌*◌, ◌<◌, ◌≤◌, ℕ, get_or}
use Rattle.px_frame.specs.Strips.{strip_number}
use Rattle.px_c.proofs.keys.write_row.Given as goal

abbrev pub invariant-loop-x : goal.invariant-loop-x
invariant-loop-x l = record {
  row : (x : ℕ) → x < l.x → get_or l.numbers (l.y * l.width + x) 0 ≡ strip_number l.strip x l.y;
  above : (i : ℕ) → i < l.y * l.width → get_or l.numbers i 0 ≡ get_or l.fn.numbers i 0;
  below : (i : ℕ) → l.y * l.width + l.x ≤ i → get_or l.numbers i 0 ≡ get_or l.fn.numbers i 0;
}

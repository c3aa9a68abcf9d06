use Rattle.px_num.proofs.Basics.{◌≡◌, ℕ, ◌<◌, length, get_or}
use Rattle.px_num.specs.Bits.{nat_bit}
use Rattle.px_rows.proofs.lanes.constant_words.Given as goal

abbrev pub invariant-loop-t : goal.invariant-loop-t
invariant-loop-t l = record {
  done : (s j : ℕ) → s < l.t → j < 64 → nat_bit (get_or l.words s 0) j ≡ nat_bit l.number s;
  whole : length l.words ≡ length l.fn.words;
}

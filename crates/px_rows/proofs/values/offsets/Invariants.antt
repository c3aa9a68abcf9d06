use Rattle.px_num.proofs.Basics.{◌≡◌, ℕ, ◌<◌, ◌%◌, ◌^◌, length}
use Rattle.px_rows.specs.Lanes.{HasValue, offset}
use Rattle.px_rows.proofs.values.offsets.Given as goal

abbrev pub invariant-loop-k : goal.invariant-loop-k
invariant-loop-k l = record {
  value : (j : ℕ) → j < 64 → HasValue l.words j (offset l.form l.ny (j % 2 ^ l.k));
  long : length l.words ≡ length l.fn.words;
}

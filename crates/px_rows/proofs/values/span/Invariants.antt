use Rattle.px_num.proofs.Basics.{ℕ, ◌<◌, ◌%◌, ◌*◌, ◌^◌, ◌≤ℤ◌}
use Rattle.px_rows.proofs.LaneWords.{IsWithin, offset}
use Rattle.px_rows.proofs.values.span.Given as goal

abbrev pub invariant-loop-k : goal.invariant-loop-k
invariant-loop-k l = record {
  least : (j : ℕ) → j < 64 → l.low ≤ℤ offset l.form l.ny (j % 2 ^ l.k);
  most : (j : ℕ) → j < 64 → offset l.form l.ny (j % 2 ^ l.k) ≤ℤ l.high;
  low : IsWithin (l.k * 2 ^ 39) l.low;
  high : IsWithin (l.k * 2 ^ 39) l.high;
}

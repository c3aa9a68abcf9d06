use Rattle.px_num.proofs.Basics.{◌≡◌, ℕ, ◌<◌, ◌≤◌, ◌+ℤ◌, false, is_negative}
use Rattle.px_rows.proofs.LaneWords.{nat_bit, offset}
use Rattle.px_rows.proofs.sides.signs_of_pixels.Given as goal

abbrev pub invariant-loop-j : goal.invariant-loop-j
invariant-loop-j l = record {
  done : (i : ℕ) → i < l.j → nat_bit l.word i ≡ is_negative (offset l.form l.ny i +ℤ l.base);
  rest : (i : ℕ) → l.j ≤ i → nat_bit l.word i ≡ false;
}

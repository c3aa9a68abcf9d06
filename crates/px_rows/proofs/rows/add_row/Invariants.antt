use Rattle.px_num.proofs.Basics.{◌≡◌, ℕ, ◌<◌, ◌≤◌, cond, get_or}
use Rattle.px_num.specs.Bits.{majority, nat_bit, xor}
use Rattle.px_rows.proofs.rows.add_row.Given as goal

abbrev pub invariant-loop-w : goal.invariant-loop-w
invariant-loop-w l = record {
  added : (k : ℕ) → k < l.w → (i : ℕ) → i < 64 → nat_bit (get_or l.target k 0) i
      ≡ cond (nat_bit (get_or l.mask k 0) i)
      (xor (nat_bit (get_or l.value k 0) i) (xor (nat_bit (get_or l.fn.target k 0) i)
      (nat_bit (get_or l.fn.carry k 0) i)))
      (nat_bit (get_or l.fn.target k 0) i);
  carried : (k : ℕ) → k < l.w → (i : ℕ) → i < 64 → nat_bit (get_or l.carry k 0) i
      ≡ majority (nat_bit (get_or l.value k 0) i) (nat_bit (get_or l.fn.target k 0) i)
      (nat_bit (get_or l.fn.carry k 0) i);
  rest : (k : ℕ) → l.w ≤ k → get_or l.target k 0 ≡ get_or l.fn.target k 0;
  rest_carry : (k : ℕ) → l.w ≤ k → get_or l.carry k 0 ≡ get_or l.fn.carry k 0;
}

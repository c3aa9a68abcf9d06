use Rattle.px_num.proofs.Basics.{◌≡◌, ℕ, ◌*◌, ◌/◌, ◌%◌, ◌<◌, ◌≤◌, cond, get_or}
use Rattle.px_num.specs.Bits.{majority, nat_bit, xor}
use Rattle.px_rows.specs.Rows.{row_bit}
use Rattle.px_rows.specs.Sums.{value_in, value_on}
use Rattle.px_rows.proofs.sums.add_blocks.Given as goal

abbrev pub invariant-loop-block : goal.invariant-loop-block
invariant-loop-block l =
    let value = value_on l.fn.value l.step l.fn.first
    in record {
      target : (p : ℕ) → p < 512 * l.block → row_bit l.target p ≡ cond (row_bit l.mask p)
          (xor (value p) (xor (row_bit l.fn.target p) (row_bit l.fn.second p))) (row_bit l.fn.target p);
      first : (p : ℕ) → p < 512 * l.block → row_bit l.first p ≡ majority (value p) l.step (row_bit l.fn.first p);
      second : (p : ℕ) → p < 512 * l.block → row_bit l.second p
          ≡ majority (value p) (row_bit l.fn.target p) (row_bit l.fn.second p);
      rest : (k : ℕ) → 8 * l.block ≤ k → get_or l.target k 0 ≡ get_or l.fn.target k 0;
      rest_first : (k : ℕ) → 8 * l.block ≤ k → get_or l.first k 0 ≡ get_or l.fn.first k 0;
      rest_second : (k : ℕ) → 8 * l.block ≤ k → get_or l.second k 0 ≡ get_or l.fn.second k 0;
      lanes : (i : ℕ) → i < 512 → nat_bit (get_or l.lanes (i / 64) 0) (i % 64) ≡ value_in l.fn.value l.step l.fn.first
          l.block i;
    }

-- What a contract sees of a value that is added to a row and grows by a step from each block of eight words to
-- the next, one bit of each number. Clauses of public calls stand on it.
use Rattle.std.specs.Prelude.{ℕ, zero, suc, ◌+◌, ◌*◌, ◌/◌, ◌%◌, Bool, List, slice_index}
use Rattle.px_num.specs.Bits.{nat_bit, xor}
use Rattle.px_rows.specs.Rows.{row_bit}

-- bit i of the value in a block: of the words `a` in the first, and in each further one of the sum of the value
-- before, the step and what is carried
abbrev pub value_in : (a : List ℕ) (step : Bool) (carry : List ℕ) → (block i : ℕ) → Bool
value_in a step carry zero i = nat_bit (slice_index a (i / 64)) (i % 64)
value_in a step carry (suc block) i = xor (value_in a step carry block i) (xor step (row_bit carry (512 * block + i)))

-- bit p of the row of these values
abbrev pub value_on : (a : List ℕ) (step : Bool) (carry : List ℕ) → ℕ → Bool
value_on a step carry p = value_in a step carry (p / 512) (p % 512)

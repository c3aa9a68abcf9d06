-- The exponents of a scene's grid: for its columns and its rows the least power of 2 from 2 to 512. Clauses of
-- public calls stand on it.
use Rattle.std.specs.Prelude.{ℕ, zero, suc, ◌+◌, ◌^◌, nat_le, if◌then◌else◌}

-- the first exponent from one on, of so many, whose power of 2 is at least the size
abbrev pub exponent_from : (size from count : ℕ) → ℕ
exponent_from size from zero = from
exponent_from size from (suc count) =
    if nat_le size (2 ^ from) then from else exponent_from size (from + 1) count

-- the least exponent of at least 1 whose power of 2 is at least the size, which is at most 2 ^ 9
unfoldable pub exponent_of : (size : ℕ) → ℕ
exponent_of size = exponent_from size 1 8

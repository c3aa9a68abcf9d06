-- Numbers that are counted up to a limit. Clauses of public calls stand on it.
use Rattle.std.specs.Prelude.{ℕ, ◌^◌, min}

-- a number, or 2 ^ 32 where it is greater
abbrev pub capped : ℕ → ℕ
capped number = min number (2 ^ 32)

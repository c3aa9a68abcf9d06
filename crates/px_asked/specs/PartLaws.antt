-- The laws of the scene part. Clauses of public calls stand on it.
use Rattle.std.specs.Prelude.{◌≡◌, ℕ, ◌≤◌, List, ◌++◌, Some, length}
use Rattle.px_asked.specs.Parts.{part_end}

-- where the scene part ends in some bytes, it ends there in more
abbrev pub PartIsKept : Type 0
PartIsKept = (xs ys : List ℕ) (n : ℕ) → part_end xs ≡ Some n → part_end (xs ++ ys) ≡ Some n

abbrev pub PartIsWithin : Type 0
PartIsWithin = (xs : List ℕ) (n : ℕ) → part_end xs ≡ Some n → n ≤ length xs

-- Lines of bytes. Clauses of public calls stand on it.
use Rattle.std.specs.Prelude.{ℕ, ◌==◌, List, [], ◌∷◌, ◌++◌, if◌then◌else◌}

-- the lines that line feeds end, where some of a line stands before the bytes
abbrev pub ended : (line bytes : List ℕ) → List (List ℕ)
ended line [] = []
ended line (b ∷ bs) = if b == 10 then line ∷ ended [] bs else ended (line ++ b ∷ []) bs

-- what stands behind the last line feed
abbrev pub left : (line bytes : List ℕ) → List ℕ
left line [] = line
left line (b ∷ bs) = if b == 10 then left [] bs else left (line ++ b ∷ []) bs

-- a last piece is a line, where it is not empty
abbrev pub last_of : List ℕ → List (List ℕ)
last_of [] = []
last_of (b ∷ bs) = (b ∷ bs) ∷ []

-- the lines that line feeds end
abbrev pub whole_lines : List ℕ → List (List ℕ)
whole_lines bytes = ended [] bytes

-- those, and a last piece without a line feed
abbrev pub all_lines : List ℕ → List (List ℕ)
all_lines bytes = ended [] bytes ++ last_of (left [] bytes)

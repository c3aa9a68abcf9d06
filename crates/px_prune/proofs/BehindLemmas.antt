-- What a box owes a solid at a cell: its members lie in it, and the faces that it hides in it or just behind it.
use Rattle.px_num.proofs.Basics.{ℕ, ◌≡◌, Bool, true, false, Option, Some, None}
use Rattle.px_prune.proofs.Words.{Cell, CellBox, has_face, is_in_box, lies_in, with_cells_behind}

-- a box is there and has the cell, or the one before it along the ray
abbrev pub is_in_or_behind : Option CellBox → ℕ → ℕ → ℕ → Bool
is_in_or_behind None x y z = false
is_in_or_behind (Some b) x y z = lies_in (with_cells_behind b) x y z

pub record HasCells (boxes : ℕ → Option CellBox) (x y z : ℕ) (at : ℕ → Cell) : Type 0 where
  pub members : (q : ℕ) → (at q).member ≡ true → is_in_box (boxes q) x y z ≡ true
  pub hidden : (q n : ℕ) → has_face n (at q).hidden ≡ true → is_in_or_behind (boxes q) x y z ≡ true

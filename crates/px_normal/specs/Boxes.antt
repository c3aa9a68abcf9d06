-- Boxes of cells, both ends included. Clauses of public calls stand on it.
use Rattle.std.specs.Prelude.{ℕ, ◌-◌, ◌^◌, Bool, false, ◌&&◌, nat_le, min, max, Option, Some, None}
use Rattle.px_normal.specs.declared.cell_box.CellBox.{CellBox}

-- the cell z of pixel (x, y) lies in the box
abbrev pub lies_in : CellBox → ℕ → ℕ → ℕ → Bool
lies_in b x y z =
    nat_le b.x0 x && nat_le x b.x1
    && nat_le b.y0 y && nat_le y b.y1
    && nat_le b.z0 z && nat_le z b.z1

-- whether a box has a cell
abbrev pub has_cell : CellBox → Bool
has_cell b = nat_le b.x0 b.x1 && nat_le b.y0 b.y1 && nat_le b.z0 b.z1

-- the cells that lie in both
abbrev pub common_part : CellBox → CellBox → CellBox
common_part a b = record {
  x0 = max a.x0 b.x0;
  x1 = min a.x1 b.x1;
  y0 = max a.y0 b.y0;
  y1 = min a.y1 b.y1;
  z0 = max a.z0 b.z0;
  z1 = min a.z1 b.z1;
}

-- all cells that a box can hold
abbrev pub everything : CellBox
everything = record {
  x0 = 0;
  x1 = 2 ^ 32 - 1;
  y0 = 0;
  y1 = 2 ^ 32 - 1;
  z0 = 0;
  z1 = 2 ^ 32 - 1;
}

-- the common part, where both boxes are there
abbrev pub narrowed : Option CellBox → Option CellBox → Option CellBox
narrowed (Some a) (Some b) = Some (common_part a b)
narrowed (Some a) None = None
narrowed None b = None

-- a box is there and has the cell
abbrev pub is_in_box : Option CellBox → ℕ → ℕ → ℕ → Bool
is_in_box None x y z = false
is_in_box (Some b) x y z = lies_in b x y z

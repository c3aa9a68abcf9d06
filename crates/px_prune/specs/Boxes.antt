-- Boxes of cells, both ends included. Clauses of public calls stand on it.
use Rattle.std.specs.Prelude.{◌+◌, Bool, true, ◌&&◌, nat_le, min, max, Option, Some, None}
use Rattle.px_normal.specs.declared.cell_box.CellBox.{CellBox}

-- with the cells just behind its last ones
abbrev pub with_cells_behind : CellBox → CellBox
with_cells_behind b = record b { z1 = b.z1 + 1 }

-- the first box, where it is there, lies in the second
abbrev pub is_part : Option CellBox → CellBox → Bool
is_part None b = true
is_part (Some a) b =
    nat_le b.x0 a.x0 && nat_le a.x1 b.x1
    && nat_le b.y0 a.y0 && nat_le a.y1 b.y1
    && nat_le b.z0 a.z0 && nat_le a.z1 b.z1

-- the least box that has both as parts
abbrev pub hull : Option CellBox → Option CellBox → Option CellBox
hull None b = b
hull (Some a) None = Some a
hull (Some a) (Some b) = Some (record {
  x0 = min a.x0 b.x0;
  x1 = max a.x1 b.x1;
  y0 = min a.y0 b.y0;
  y1 = max a.y1 b.y1;
  z0 = min a.z0 b.z0;
  z1 = max a.z1 b.z1;
})

-- The bounding box of a solid: the least box that holds all its cells at the pixels of the picture. Clauses of
-- public calls stand on it.
use Rattle.std.specs.Prelude.{ℕ, ◌≡◌, ◌↔◌, Bool, true, false, ◌&&◌, nat_lt, Option, Some, None, if◌then◌else◌}
use Prim.Native.Nat.{zero, suc}
use Rattle.px_model.specs.Scenes.{SceneView}
use Rattle.px_model.specs.Cells.{leaf_cell, depths_of, far_of}
use Rattle.px_normal.specs.declared.cell_box.CellBox.{CellBox}
use Rattle.px_normal.specs.Boxes.{lies_in, is_in_box}
use Rattle.px_prune.specs.Boxes.{is_part, hull}

-- the box holds all the cells, and each box that does has it as a part;
-- none comes exactly where there is no cell
pub record IsBoxOf (cells : ℕ → ℕ → ℕ → Bool) (box : Option CellBox) : Type 0 where
  pub holds : (x y z : ℕ) → cells x y z ≡ true → is_in_box box x y z ≡ true
  pub least : (b : CellBox) →
      ((x y z : ℕ) → cells x y z ≡ true → lies_in b x y z ≡ true) → is_part box b ≡ true
  pub none : (box ≡ None) ↔ ((x y z : ℕ) → cells x y z ≡ false)

-- the cells at the pixels of the first rows
abbrev pub in_rows : (ℕ → ℕ → ℕ → Bool) → ℕ → ℕ → ℕ → ℕ → ℕ → Bool
in_rows cells width height a b z = nat_lt a width && nat_lt b height && cells a b z

-- a solid's cells at the pixels of the picture
abbrev pub cells_of : SceneView → ℕ → ℕ → ℕ → ℕ → Bool
cells_of scene solid =
    in_rows (λ x y z. (leaf_cell scene.solids (depths_of scene) x y z solid).member)
    scene.width scene.height

-- the box of one cell, where it is among the cells
abbrev pub cell_box : (ℕ → ℕ → ℕ → Bool) → ℕ → ℕ → ℕ → Option CellBox
cell_box cells x y z =
    if cells x y z then Some (record { x0 = x; x1 = x; y0 = y; y1 = y; z0 = z; z1 = z }) else None

-- the boxes of the first cells at a pixel, joined
abbrev pub pixel_hull : (ℕ → ℕ → ℕ → Bool) → ℕ → ℕ → ℕ → Option CellBox
pixel_hull cells x y zero = None
pixel_hull cells x y (suc z) = hull (pixel_hull cells x y z) (cell_box cells x y z)

-- the boxes of the first pixels of a row, joined
abbrev pub row_hull : (ℕ → ℕ → ℕ → Bool) → ℕ → ℕ → ℕ → Option CellBox
row_hull cells far y zero = None
row_hull cells far y (suc x) = hull (row_hull cells far y x) (pixel_hull cells x y far)

-- the boxes of the first rows, joined
abbrev pub rows_hull : (ℕ → ℕ → ℕ → Bool) → ℕ → ℕ → ℕ → Option CellBox
rows_hull cells far width zero = None
rows_hull cells far width (suc y) = hull (rows_hull cells far width y) (row_hull cells far y width)

-- the bounding box of a solid: the boxes of its cells in the picture, joined
abbrev pub bounding_box : SceneView → ℕ → Option CellBox
bounding_box scene solid =
    rows_hull (λ x y z. (leaf_cell scene.solids (depths_of scene) x y z solid).member)
    (far_of scene) scene.width scene.height

abbrev pub IsBoundingBox : SceneView → ℕ → Option CellBox → Type 0
IsBoundingBox scene solid box = IsBoxOf (cells_of scene solid) box

-- What is seen of a scene at a pixel: the cells inside a solid, the faces that show at a cell, and the first cell.
-- Clauses of public calls stand on it.
use Rattle.std.specs.Prelude.{ℕ, ℤ, pos, negsuc, ◌+◌, ◌-◌, ◌*◌, ◌/◌, ◌^◌, ◌==◌, min, Bool, false, ◌&&◌, List}
use Rattle.std.specs.Prelude.{[], ◌∷◌, ◌++◌, Option, Some, None, if◌then◌else◌, nat_lt, map, filter, slice_get}
use Rattle.std.specs.Option.{option_map_or}
use Rattle.std.specs.List.{fold, list_all}
use Rattle.std.specs.Int.{int_max, int_min}
use Rattle.std.specs.Ordering.{int_eq}
use lib.Signed.{lt_z, le_z}
use Prim.Native.Nat.{zero, suc}
use Rattle.px_num.specs.Forms.{value_at}
use Rattle.px_expr.specs.Cells.{Cell, cell}
use Rattle.px_model.specs.declared.solid.Face.{Face}
use Rattle.px_model.specs.Scenes.{SolidView, SceneView}

-- the depths of a scene: how many cells a ray has, and how many bits a plane's value has below a whole cell
pub record Depths : Type 0 where
  pub far : ℕ
  pub fraction_bits : ℕ

-- depths of so many cells and fraction bits
abbrev pub depths : (far fraction_bits : ℕ) → Depths
depths far fraction_bits = record { far = far; fraction_bits = fraction_bits }

-- the value of a plane that stands at cell z
abbrev pub value_of : Depths → ℕ → ℕ
value_of d z = z * 2 ^ d.fraction_bits

-- the value of the far limit
abbrev pub end_of : Depths → ℕ
end_of d = value_of d d.far

-- the first cell whose value is at least v
abbrev pub cell_of : Depths → ℤ → ℕ
cell_of d (pos n) = (n + (2 ^ d.fraction_bits - 1)) / 2 ^ d.fraction_bits
cell_of d (negsuc n) = 0

-- a value is inside where it is below that of the far limit, and in each half-space
abbrev pub is_inside_at : SolidView → (end x y v : ℕ) → Bool
is_inside_at s end x y v =
    nat_lt v end
    && list_all (λ side. le_z (pos 0) (value_at side x y)) s.sides
    && list_all (λ front. le_z (value_at front.plane x y) (pos v)) s.fronts
    && list_all (λ back. lt_z (pos v) (value_at back.plane x y)) s.backs

-- a cell is inside where its value is
abbrev pub is_inside : SolidView → Depths → (x y z : ℕ) → Bool
is_inside s d x y z = is_inside_at s (end_of d) x y (value_of d z)

-- whether the cell before is inside; there is none before the first
abbrev pub is_inside_before : SolidView → Depths → (x y z : ℕ) → Bool
is_inside_before s d x y zero = false
is_inside_before s d x y (suc z) = is_inside s d x y z

-- the greatest value of a front, the near face included
abbrev pub enters_at : SolidView → (x y : ℕ) → ℤ
enters_at s x y = fold int_max (pos 0) (map (λ f. value_at f.plane x y) s.fronts)

-- the least value of a back, the far limit included
abbrev pub leaves_at : SolidView → (end x y : ℕ) → ℤ
leaves_at s end x y = fold int_min (pos end) (map (λ f. value_at f.plane x y) s.backs)

-- the numbers of the faces whose value is v
abbrev pub faces_at : List Face → (x y : ℕ) → ℤ → List ℕ
faces_at faces x y v = map (λ f. f.number) (filter (λ f. int_eq (value_at f.plane x y) v) faces)

-- the fronts that have the greatest value, the near face among them
abbrev pub greatest_fronts : SolidView → (x y : ℕ) → List ℕ
greatest_fronts s x y =
    (if int_eq (pos 0) (enters_at s x y) then s.near_number ∷ [] else []) ++ faces_at s.fronts x y (enters_at s x y)

-- the fronts that show at a cell: the greatest, where the cell is theirs
abbrev pub fronts_at : SolidView → Depths → (x y z : ℕ) → List ℕ
fronts_at s d x y z = if cell_of d (enters_at s x y) == z then greatest_fronts s x y else []

-- the least backs at a cell just behind the solid, which show where it is subtracted
abbrev pub backs_at : SolidView → Depths → (x y z : ℕ) → List ℕ
backs_at s d x y z =
    if is_inside_before s d x y z && (cell_of d (leaves_at s (end_of d) x y) == z)
    then faces_at s.backs x y (leaves_at s (end_of d) x y) else []

-- a solid at a cell
abbrev pub solid_cell : Depths → (x y z : ℕ) → SolidView → Cell
solid_cell d x y z s = record { member = is_inside s d x y z; shown = fronts_at s d x y z; hidden = backs_at s d x y z }

-- a cell that is in nothing and shows nothing
abbrev pub no_cell : Cell
no_cell = record { member = false; shown = []; hidden = [] }

-- the solid of an index at a cell
abbrev pub leaf_cell : List SolidView → Depths → (x y z solid : ℕ) → Cell
leaf_cell solids d x y z solid = option_map_or (solid_cell d x y z) (slice_get solids solid) no_cell

-- the depth of the background, and how many cells a ray of the scene has
abbrev pub far_of : SceneView → ℕ
far_of scene = 2 ^ scene.depth_bits - 1

-- the depths of a scene
abbrev pub depths_of : SceneView → Depths
depths_of scene = depths (far_of scene) scene.fraction_bits

-- the shown expression at a cell of a pixel
abbrev pub scene_cell : SceneView → ℕ → ℕ → ℕ → Cell
scene_cell scene x y z = cell (leaf_cell scene.solids (depths_of scene) x y z) scene.show

-- whether a cell of a pixel belongs to the shown expression
abbrev pub is_member_at : SceneView → ℕ → ℕ → ℕ → Bool
is_member_at scene x y z = (scene_cell scene x y z).member

-- what was found, otherwise the number itself, where it passes the test
abbrev pub first_or : (ℕ → Bool) → ℕ → Option ℕ → Option ℕ
first_or test n (Some z) = Some z
first_or test n None = if test n then Some n else None

-- the least number below n that passes the test
abbrev pub first : (ℕ → Bool) → ℕ → Option ℕ
first test zero = None
first test (suc n) = first_or test n (first test n)

-- the first cell of a pixel, where it has one
abbrev pub first_cell : SceneView → ℕ → ℕ → Option ℕ
first_cell scene x y = first (is_member_at scene x y) (far_of scene)

-- the least of some numbers, or 0 where there is none
abbrev pub least : List ℕ → ℕ
least [] = 0
least (n ∷ []) = n
least (n ∷ m ∷ ns) = min n (least (m ∷ ns))

-- what a pixel shows: a depth and a face number
pub record Sight : Type 0 where
  pub depth : ℕ
  pub face : ℕ

-- what a pixel with this first cell shows: its depth and the lowest-numbered face, otherwise the background
abbrev pub sight_at : SceneView → ℕ → ℕ → Option ℕ → Sight
sight_at scene x y None = record { depth = far_of scene; face = 0 }
sight_at scene x y (Some z) = record { depth = z; face = least (scene_cell scene x y z).shown }

-- the picture at a pixel: its first cell and the lowest-numbered face shown there, or the background
abbrev pub picture : SceneView → ℕ → ℕ → Sight
picture scene x y = sight_at scene x y (first_cell scene x y)

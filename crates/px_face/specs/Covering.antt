-- The main theorem: where a solid is met at a pixel, exactly one of its fronts and one of its backs
-- cover the pixel and bound its cells there, and elsewhere none covers; and a cell is inside where an
-- odd number of covering faces stands at or before it. Clauses of public calls stand on it.
use Rattle.std.specs.Prelude.{◌≡◌, ℕ, suc, ◌+◌, ◌%◌, ◌<◌, ◌≤◌, ◌==◌, ℤ, pos, neg_ℤ, ◌≤ℤ◌, ◌<ℤ◌, Bool, true}
use Rattle.std.specs.Prelude.{false, ◌&&◌, nat_le, nat_lt, List, [], ◌∷◌, length, map, count_by, if◌then◌else◌}
use Rattle.std.specs.List.{list_all, range_with_len}
use lib.Signed.{le_z, lt_z}
use Rattle.px_num.specs.Forms.{value_at}
use Rattle.px_model.specs.Scenes.{IsLawfulSolid, SolidView}
use Rattle.px_model.specs.Cells.{Depths, cell_of, end_of, enters_at, is_inside, is_inside_at, leaves_at}
use Rattle.px_face.specs.Edges.{hold_at, covers}
use Rattle.px_face.specs.Faces.{back_planes, face_count, front_planes, is_front_face, face_number, face_plane}

-- the sides hold, and the greatest front is below the least back
abbrev pub is_met : SolidView → (end : ℕ) → (x y : ℕ) → Bool
is_met s end x y = hold_at s.sides x y && lt_z (enters_at s x y) (leaves_at s end x y)

-- where the greatest number of a list first stands
abbrev pub greatest_place : List ℤ → ℕ
greatest_place [] = 0
greatest_place (v ∷ vs) = if list_all (λ u. le_z u v) vs then 0 else suc (greatest_place vs)

-- of the fronts with the greatest value the first
abbrev pub covering_front : SolidView → (x y : ℕ) → ℕ
covering_front s x y = greatest_place (map (λ p. value_at p x y) (front_planes s.fronts))

-- of the backs with the least value the first
abbrev pub covering_back : SolidView → (end : ℕ) → (x y : ℕ) → ℕ
covering_back s end x y =
    length s.fronts + 1 + greatest_place (map (λ p. neg_ℤ (value_at p x y)) (back_planes s.backs end))

-- the front that covers: of those with the greatest value the one of least number
pub record IsCoveringFront (s : SolidView) (end x y : ℕ) : Type 0 where
  pub there : is_front_face s (covering_front s x y) ≡ true
  pub value : value_at (face_plane s end (covering_front s x y)) x y ≡ enters_at s x y
  pub least : IsLawfulSolid s → (face : ℕ) → is_front_face s face ≡ true →
      value_at (face_plane s end face) x y ≡ enters_at s x y →
      face_number s (covering_front s x y) ≤ face_number s face

-- the back that covers: of those with the least value the one of least index
pub record IsCoveringBack (s : SolidView) (end x y : ℕ) : Type 0 where
  pub there : covering_back s end x y < face_count s
  pub behind : is_front_face s (covering_back s end x y) ≡ false
  pub value : value_at (face_plane s end (covering_back s end x y)) x y ≡ leaves_at s end x y
  pub least : (face : ℕ) → face < face_count s → is_front_face s face ≡ false →
      value_at (face_plane s end face) x y ≡ leaves_at s end x y →
      covering_back s end x y ≤ face

-- the covering law at a pixel
pub record IsCoveredOnce (s : SolidView) (end x y : ℕ) : Type 0 where
  -- where the solid is met one of its fronts covers and one of its backs, and elsewhere none
  pub fronts : (face : ℕ) → is_front_face s face ≡ true →
      covers s end face x y ≡ (is_met s end x y && face == covering_front s x y)
  pub backs : (face : ℕ) → face < face_count s → is_front_face s face ≡ false →
      covers s end face x y ≡ (is_met s end x y && face == covering_back s end x y)
  pub front : IsCoveringFront s end x y
  pub back : IsCoveringBack s end x y
  -- a value is inside where the solid is met, from the front's value to before the back's
  pub values : (v : ℕ) → is_inside_at s end x y v
      ≡ (is_met s end x y && le_z (enters_at s x y) (pos v) && lt_z (pos v) (leaves_at s end x y))
  pub depths : is_met s end x y ≡ true →
      (pos 0 ≤ℤ enters_at s x y) × (enters_at s x y <ℤ leaves_at s end x y)
      × (leaves_at s end x y ≤ℤ pos end)

-- the cells of a solid at a pixel, where d are the depths of the scene
pub record HasCells (s : SolidView) (d : Depths) (x y : ℕ) : Type 0 where
  -- a cell is inside where the solid is met, from the front's cell to the one before the back's
  pub cells : (z : ℕ) → is_inside s d x y z
      ≡ (is_met s (end_of d) x y && nat_le (cell_of d (enters_at s x y)) z
      && nat_lt z (cell_of d (leaves_at s (end_of d) x y)))
  -- where the solid is met and has no cell, the two are the same
  pub none : is_met s (end_of d) x y ≡ true → ((z : ℕ) → is_inside s d x y z ≡ false) →
      cell_of d (enters_at s x y) ≡ cell_of d (leaves_at s (end_of d) x y)
  pub within : is_met s (end_of d) x y ≡ true → cell_of d (leaves_at s (end_of d) x y) ≤ d.far

abbrev pub is_odd : ℕ → Bool
is_odd n = n % 2 == 1

-- a face covers the pixel, and its cell is z or before it
abbrev pub is_passed : SolidView → Depths → (x y z face : ℕ) → Bool
is_passed s d x y z face =
    covers s (end_of d) face x y && nat_le (cell_of d (value_at (face_plane s (end_of d) face) x y)) z

-- the parity law at a pixel
abbrev pub IsInsideByParity : SolidView → Depths → (x y : ℕ) → Type 0
IsInsideByParity s d x y = (z : ℕ) →
    is_inside s d x y z
    ≡ is_odd (count_by (is_passed s d x y z) (range_with_len 0 (face_count s)))

abbrev pub CoveringLaw : Type 0
CoveringLaw = (s : SolidView) (end x y : ℕ) → IsCoveredOnce s end x y

abbrev pub CellsLaw : Type 0
CellsLaw = (s : SolidView) (d : Depths) (x y : ℕ) → HasCells s d x y

-- a face covers the pixel, and its value is v or less
abbrev pub is_passed_at : SolidView → (end x y v face : ℕ) → Bool
is_passed_at s end x y v face =
    covers s end face x y && le_z (value_at (face_plane s end face) x y) (pos v)

-- a value is inside where the number of the covering faces that are not above it is odd
abbrev pub ValueParityLaw : Type 0
ValueParityLaw = (s : SolidView) (end x y v : ℕ) →
    is_inside_at s end x y v
    ≡ is_odd (count_by (is_passed_at s end x y v) (range_with_len 0 (face_count s)))

abbrev pub ParityLaw : Type 0
ParityLaw = (s : SolidView) (d : Depths) (x y : ℕ) → IsInsideByParity s d x y

-- The surface law: where a solid or a scene begins along a ray it shows a face, and just after its end it hides one;
-- so a pixel shows face 0 exactly at the background. Clauses of public calls stand on it.
use Rattle.std.specs.Prelude.{◌≡◌, ◌<◌, ◌≤◌, ◌↔◌, ℕ, Bool, true, false, Option, Some, None, All}
use Prim.Native.Nat.{zero, suc}
use Rattle.px_expr.specs.Cells.{Cell, HasSurface}
use Rattle.px_model.specs.Scenes.{IsLawfulSolid, SolidView, IsLawfulScene, SceneView, faces_of}
use Rattle.px_model.specs.Cells.{Depths, far_of, first_cell, is_member_at, no_cell, picture, scene_cell, solid_cell}

-- a solid at the cell before, which no ray has before its first
abbrev pub solid_before : Depths → (x y z : ℕ) → SolidView → Cell
solid_before d x y zero s = no_cell
solid_before d x y (suc z) s = solid_cell d x y z s

-- the shown expression at the cell before
abbrev pub scene_before : SceneView → (x y z : ℕ) → Cell
scene_before scene x y zero = no_cell
scene_before scene x y (suc z) = scene_cell scene x y z

-- the far limit has no number, so nothing is said of the cell there; no member is there or after it
abbrev pub SolidsHaveSurfaces : Type 0
SolidsHaveSurfaces = (s : SolidView) (d : Depths) (x y z : ℕ) → z < d.far →
    HasSurface (solid_before d x y z s) (solid_cell d x y z s)

abbrev pub ScenesHaveSurfaces : Type 0
ScenesHaveSurfaces = (scene : SceneView) → IsLawfulScene scene → (x y z : ℕ) → z < far_of scene →
    HasSurface (scene_before scene x y z) (scene_cell scene x y z)

abbrev pub NoMemberBehind : Type 0
NoMemberBehind = (scene : SceneView) (x y z : ℕ) → far_of scene ≤ z → is_member_at scene x y z ≡ false

-- a number that passes the test, below which none does
pub record IsFirst (test : ℕ → Bool) (limit found : ℕ) : Type 0 where
  pub below : found < limit
  pub passes : test found ≡ true
  pub none_before : (n : ℕ) → n < found → test n ≡ false

-- the first number below the limit that passes the test, where one does
abbrev pub IsFirstOf : (test : ℕ → Bool) (limit : ℕ) → Option ℕ → Type 0
IsFirstOf test limit None = (n : ℕ) → n < limit → test n ≡ false
IsFirstOf test limit (Some found) = IsFirst test limit found

abbrev pub FirstCellsAreFirst : Type 0
FirstCellsAreFirst = (scene : SceneView) (x y : ℕ) →
    IsFirstOf (is_member_at scene x y) (far_of scene) (first_cell scene x y)

-- a pixel shows face 0, and the far limit's depth, exactly where no cell is a member
pub record ShowsBackground (scene : SceneView) (x y : ℕ) : Type 0 where
  pub face : ((picture scene x y).face ≡ 0) ↔ (first_cell scene x y ≡ None)
  pub depth : ((picture scene x y).depth ≡ far_of scene) ↔ (first_cell scene x y ≡ None)

-- a picture shows only faces of the scene
abbrev pub PicturesShowFaces : Type 0
PicturesShowFaces = (scene : SceneView) → IsLawfulScene scene → (x y : ℕ)
    → (picture scene x y).face ≤ faces_of scene.solids

abbrev pub PicturesShowBackground : Type 0
PicturesShowBackground = (scene : SceneView) → IsLawfulScene scene → All IsLawfulSolid scene.solids → (x y : ℕ) →
    ShowsBackground scene x y

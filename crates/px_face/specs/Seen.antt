-- What a pixel of a picture shows, said without how it is found: the first cell that belongs to the shown
-- expression and the lowest-numbered face shown there, or the background where no cell belongs. Clauses of public
-- calls stand on it.
use Rattle.std.specs.Prelude.{◌≡◌, ◌<◌, ◌≤◌, ◌⊎◌, ℕ, true, false}
use Rattle.px_expr.specs.Cells.{has_face}
use Rattle.px_model.specs.Scenes.{IsLawfulScene, SceneView}
use Rattle.px_model.specs.Cells.{Sight, far_of, is_member_at, picture, scene_cell}

-- the cell of the depth belongs, none before it does, and the face has the lowest number of those shown there
pub record ShowsFirstCell (scene : SceneView) (x y : ℕ) (seen : Sight) : Type 0 where
  pub before_far : seen.depth < far_of scene
  pub belongs : is_member_at scene x y seen.depth ≡ true
  pub first : (z : ℕ) → z < seen.depth → is_member_at scene x y z ≡ false
  pub shown : has_face seen.face (scene_cell scene x y seen.depth).shown ≡ true
  pub lowest : (face : ℕ) → has_face face (scene_cell scene x y seen.depth).shown ≡ true → seen.face ≤ face

-- no cell of the pixel belongs: the depth is that of the background, and there is no face
pub record ShowsBackgroundAlone (scene : SceneView) (x y : ℕ) (seen : Sight) : Type 0 where
  pub none : (z : ℕ) → z < far_of scene → is_member_at scene x y z ≡ false
  pub depth : seen.depth ≡ far_of scene
  pub face : seen.face ≡ 0

-- each pixel of each picture shows the one or the other
abbrev pub PicturesShowFirstCells : Type 0
PicturesShowFirstCells = (scene : SceneView) → IsLawfulScene scene → (x y : ℕ) →
    ShowsFirstCell scene x y (picture scene x y) ⊎ ShowsBackgroundAlone scene x y (picture scene x y)

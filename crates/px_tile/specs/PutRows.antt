-- What is put into the numbers of a wide picture, row by row. Only proofs and private functions stand on it.
use Rattle.std.specs.Prelude.{◌≡◌, ℕ, ◌+◌, ◌*◌, ◌<◌, ◌≤◌, ◌⊎◌, List, length, slice_index}
use Rattle.px_frame.specs.Strips.{strip_number}
use Rattle.px_model.specs.Scenes.{SceneView}
use Rattle.px_model.specs.Cells.{picture}
use Rattle.px_tile.specs.Found.{number_at, sight_number}

-- two strips have the depth and the face of each pixel of row y of a picture
pub record HoldSights (scene : SceneView) (y : ℕ) (depths faces : List ℕ) : Type 0 where
  pub depth_columns : length depths ≡ 8 * scene.width
  pub face_columns : length faces ≡ 8 * scene.width
  pub depth : (x : ℕ) → x < scene.width → strip_number depths x y ≡ (picture scene x y).depth
  pub face : (x : ℕ) → x < scene.width → strip_number faces x y ≡ (picture scene x y).face

-- the first so many pixels of row y were put from a place on, and the other numbers stayed
pub record PutsRow (scene : SceneView) (count y start : ℕ) (old new : List ℕ) : Type 0 where
  pub same_count : length new ≡ length old
  pub row : (x : ℕ) → x < count → slice_index new (start + x) ≡ sight_number (picture scene x y)
  pub rest : (place : ℕ) → (place < start) ⊎ (start + count ≤ place) → slice_index new place ≡ slice_index old place

-- the pixel of a wide picture at which a tile begins
pub record Corner : Type 0 where
  pub left : ℕ
  pub top : ℕ

-- so many rows of a tile were put, and the other numbers stayed
pub record PutsRows (scene : SceneView) (count : ℕ) (at : Corner) (width : ℕ) (old new : List ℕ) : Type 0 where
  pub same_count : length new ≡ length old
  pub rows : (x y : ℕ) → x < scene.width → y < count →
      number_at new width (at.left + x) (at.top + y) ≡ sight_number (picture scene x y)
  pub rest : (x y : ℕ) → x < width → (y < at.top) ⊎ (at.top + count ≤ y) ⊎ (x < at.left) ⊎ (at.left + scene.width ≤ x) →
      number_at new width x y ≡ number_at old width x y

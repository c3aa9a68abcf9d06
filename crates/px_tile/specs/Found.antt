-- The numbers that are found of a wide picture, row by row. Clauses of public calls stand on it.
use Rattle.std.specs.Prelude.{◌≡◌, ℕ, ◌+◌, ◌*◌, ◌^◌, ◌<◌, ◌≤◌, List, length, slice_index}
use Rattle.px_model.specs.Scenes.{SceneView}
use Rattle.px_model.specs.Cells.{Sight, picture}
use Rattle.px_tile.specs.Tiles.{wide_scene}

-- a depth and a face as one number
abbrev pub sight_number : Sight → ℕ
sight_number sight = sight.depth * 2 ^ 32 + sight.face

-- the number of the pixel (x, y) of a picture so wide
abbrev pub number_at : List ℕ → (width x y : ℕ) → ℕ
number_at found width x y = slice_index found (y * width + x)

-- the pixel (x, y) is one of the tile that begins at (x0, y0)
pub record IsInTile (tile : SceneView) (x0 y0 x y : ℕ) : Type 0 where
  pub from_left : x0 ≤ x
  pub left : x < x0 + tile.width
  pub from_top : y0 ≤ y
  pub above : y < y0 + tile.height

-- the picture of a tile was put into the numbers of the wide picture, and the rest of them stayed
pub record PutsTile (tile : SceneView) (x0 y0 width : ℕ) (old new : List ℕ) : Type 0 where
  pub count : length new ≡ length old
  pub shown : (x y : ℕ) → x < tile.width → y < tile.height →
      number_at new width (x0 + x) (y0 + y) ≡ sight_number (picture tile x y)
  pub rest : (x y : ℕ) → x < width → (IsInTile tile x0 y0 x y → ⊥) → number_at new width x y ≡ number_at old width x y

-- the numbers are those of the wide picture
pub record IsFound (scene : SceneView) (width height : ℕ) (found : List ℕ) : Type 0 where
  pub count : length found ≡ width * height
  pub each : (x y : ℕ) → x < width → y < height →
      number_at found width x y ≡ sight_number (picture (wide_scene scene width height) x y)

-- The tiles of a wide picture, by rows from the top and in each from the left. Clauses of public calls stand on it.
use Rattle.std.specs.Prelude.{ℕ, ◌+◌, ◌-◌, ◌*◌, ◌/◌, ◌%◌, ◌≤◌, min}
use Rattle.px_model.specs.declared.limits.TheConstants.{MAX_PICTURE_SIZE}
use Rattle.px_model.specs.Scenes.{SceneView}
use Rattle.px_model.specs.declared.limits.TheConstants.{MAX_WIDE_PICTURE_SIZE}
use Rattle.px_tile.specs.Tiles.{tile_scene}

-- a wide picture is 1 to MAX_WIDE_PICTURE_SIZE pixels wide, and so high
pub record IsWideSize (columns rows : ℕ) : Type 0 where
  pub some_width : 1 ≤ columns
  pub width : columns ≤ MAX_WIDE_PICTURE_SIZE
  pub some_height : 1 ≤ rows
  pub height : rows ≤ MAX_WIDE_PICTURE_SIZE

-- a tile is 1 to MAX_PICTURE_SIZE pixels wide, and so high
pub record IsTileSize (columns rows : ℕ) : Type 0 where
  pub some_width : 1 ≤ columns
  pub width : columns ≤ MAX_PICTURE_SIZE
  pub some_height : 1 ≤ rows
  pub height : rows ≤ MAX_PICTURE_SIZE

-- how many tiles of a size it takes to cover so many pixels
abbrev pub tiles_across : (size pixels : ℕ) → ℕ
tiles_across size pixels = (pixels + (size - 1)) / size

-- how many tiles, each of the size of the scene's picture, cover a wide picture
abbrev pub tile_count : SceneView → (width height : ℕ) → ℕ
tile_count scene width height = tiles_across scene.width width * tiles_across scene.height height

-- the first column of a tile, and its first row
abbrev pub column_of : SceneView → (width tile : ℕ) → ℕ
column_of scene width tile = tile % tiles_across scene.width width * scene.width

abbrev pub row_of : SceneView → (width tile : ℕ) → ℕ
row_of scene width tile = tile / tiles_across scene.width width * scene.height

-- a tile's scene; the last ones of a row and of a column are cut to the rest
abbrev pub scene_of_tile : SceneView → (width height tile : ℕ) → SceneView
scene_of_tile scene width height tile =
    tile_scene scene (column_of scene width tile) (row_of scene width tile)
    (min scene.width (width - column_of scene width tile)) (min scene.height (height - row_of scene width tile))

-- Where the drawing of a wide picture stands after so many tiles, and what is asked of one tile. Only proofs
-- and private functions stand on it.
use Rattle.std.specs.Prelude.{◌≡◌, ℕ, ◌+◌, ◌*◌, ◌/◌, ◌<◌, ◌⊎◌, List, length, Option}
use Rattle.px_array.specs.Slots.{ArrayView}
use Rattle.px_model.specs.Scenes.{SceneView}
use Rattle.px_model.specs.Cells.{picture}
use Rattle.px_tile.specs.Found.{number_at, sight_number}
use Rattle.px_tile.specs.Pictures.{IsTileDrawn}
use Rattle.px_tile.specs.Tilings.{scene_of_tile, tile_count, tiles_across}
use Rattle.px_prune.specs.Kept.{crowd_of}

-- the number of the tile that a pixel of the wide picture is in
abbrev pub tile_at : SceneView → (width x y : ℕ) → ℕ
tile_at scene width x y = y / scene.height * tiles_across scene.width width + x / scene.width

-- the pixels of the first so many tiles have their numbers
pub record HasTiles (scene : SceneView) (width height count : ℕ) (found : List ℕ) : Type 0 where
  pub size : length found ≡ width * height
  pub each : (x y : ℕ) → x < width → y < height → tile_at scene width x y < count →
      number_at found width x y ≡ sight_number (picture scene x y)

-- the array is as before, or as the last of the first so many tiles left it
abbrev pub IsLeft : (bits : ℕ) → SceneView → (width height count : ℕ) → (before now : ArrayView) → Type 0
IsLeft bits scene width height count before now = ((count ≡ 0) × (now ≡ before))
    ⊎ ((last : ℕ) × (count ≡ last + 1) × (last < tile_count scene width height)
    × IsTileDrawn bits scene width height last now)

-- the length of the first wanted list past the limit of a tile
abbrev pub crowd_of_tile : SceneView → (width height tile : ℕ) → Option ℕ
crowd_of_tile scene width height tile = crowd_of (scene_of_tile scene width height tile)

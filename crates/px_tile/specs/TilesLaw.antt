-- The picture of a tile is its part of the wide picture. Clauses of public calls stand on it.
use Rattle.std.specs.Prelude.{◌≡◌, ℕ, ◌+◌}
use Rattle.px_model.specs.Scenes.{SceneView}
use Rattle.px_model.specs.Cells.{picture}
use Rattle.px_tile.specs.Tiles.{tile_scene, wide_scene}

-- whatever the sizes are
abbrev pub TilesLaw : Type 0
TilesLaw = (scene : SceneView) (x0 y0 width height wide high x y : ℕ) →
    picture (tile_scene scene x0 y0 width height) x y ≡ picture (wide_scene scene wide high) (x0 + x) (y0 + y)

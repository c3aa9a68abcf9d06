-- A tile of a wide picture as a scene of its own, and the scene of the wide picture. Clauses of public calls
-- stand on it.
use Rattle.std.specs.Prelude.{ℕ}
use Rattle.px_model.specs.declared.pixels.Pixels.TheVariants as pixels
use Rattle.px_model.specs.Pixels.{scene_over}
use Rattle.px_model.specs.Scenes.{SceneView}

-- the scene of the tile that begins at the pixel (x0, y0)
abbrev pub tile_scene : SceneView → (x0 y0 width height : ℕ) → SceneView
tile_scene scene x0 y0 width height = scene_over (pixels.StartingAt x0 y0) width height scene

-- the scene with the size of a wide picture, which may be past the limit of a scene
abbrev pub wide_scene : SceneView → (width height : ℕ) → SceneView
wide_scene scene width height = record scene { width = width; height = height }

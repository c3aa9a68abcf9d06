-- The finer scene: the same half-spaces over a screen of 2^s times the pixels on each side. Clauses of public
-- calls stand on it.
use Rattle.std.specs.Prelude.{ℕ, ◌*◌, ◌^◌}
use Rattle.px_model.specs.declared.pixels.Pixels.TheVariants as pixels
use Rattle.px_model.specs.Pixels.{scene_over}
use Rattle.px_model.specs.Scenes.{SceneView}

-- depths keep their bits; the value of each plane at (2^s * x, 2^s * y) is 2^s times that at (x, y)
abbrev pub fine_scene : (s : ℕ) → SceneView → SceneView
fine_scene s scene = scene_over (pixels.Finer s) (2 ^ s * scene.width) (2 ^ s * scene.height) scene

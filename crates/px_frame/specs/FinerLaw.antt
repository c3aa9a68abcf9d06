-- What the finer scene has to do with the scene: at common pixels they have one picture. Clauses of public
-- calls stand on it.
use Rattle.std.specs.Prelude.{◌≡◌, ℕ, ◌*◌, ◌^◌}
use Rattle.px_model.specs.Scenes.{SceneView}
use Rattle.px_model.specs.Cells.{picture}
use Rattle.px_frame.specs.Finer.{fine_scene}

-- the first of the finer pixels that a pixel is cut into shows what the pixel shows
abbrev pub CommonPixelsAgree : Type 0
CommonPixelsAgree = (s : ℕ) (scene : SceneView) (x y : ℕ) →
    picture (fine_scene s scene) (2 ^ s * x) (2 ^ s * y) ≡ picture scene x y

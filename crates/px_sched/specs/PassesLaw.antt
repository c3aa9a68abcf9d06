-- The passes law: one after another on the numbers of a pixel of the picture, whatever they were, the passes leave
-- in key B the depth and the face number that the pixel shows. Clauses of public calls stand on it.
use Rattle.std.specs.Prelude.{◌≡◌, ℕ, ◌<◌, ◌≤◌, All, Bool, List, length}
use Rattle.px_macro.specs.Fields.{number_in}
use Rattle.px_macro.specs.Macros.{PixelBits, after_macros}
use Rattle.px_model.specs.Scenes.{SceneView, IsLawfulScene, IsLawfulSolid}
use Rattle.px_model.specs.Cells.{Sight, picture}
use Rattle.px_sched.specs.Layouts.{LayoutView, depth_part, fraction_part, layout_of, need_of, number_part}
use Rattle.px_sched.specs.Passes.{passes}

-- a pixel's memory has a depth, with no fraction, and a face number in key B
pub record HasSight (l : LayoutView) (memory : List Bool) (sight : Sight) : Type 0 where
  pub depth : number_in (depth_part l l.key_b) memory ≡ sight.depth
  pub whole : number_in (fraction_part l l.key_b) memory ≡ 0
  pub face : number_in (number_part l l.key_b) memory ≡ sight.face

-- each pixel of the picture has in its memory what it shows
abbrev pub ShowsThePicture : SceneView → LayoutView → (memory_at : (x y : ℕ) → List Bool) → Type 0
ShowsThePicture scene l memory_at = (x y : ℕ) → x < scene.width → y < scene.height →
    HasSight l (memory_at x y) (picture scene x y)

abbrev pub PassesLaw : Type 0
PassesLaw = (scene : SceneView) → IsLawfulScene scene → All IsLawfulSolid scene.solids →
    (x y : ℕ) → x < scene.width → y < scene.height →
    (p : PixelBits) → need_of (layout_of scene) ≤ length p.memory →
    HasSight (layout_of scene) (after_macros (passes scene) x y p).memory (picture scene x y)

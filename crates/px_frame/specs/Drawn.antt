-- What the drawing of an opened job leaves of the array and of the job. Clauses of public calls stand on it.
use Rattle.std.specs.Prelude.{◌≡◌, ℕ}
use Rattle.px_array.specs.Arrays.{Device, pixel_of}
use Rattle.px_model.specs.Scenes.{SceneView}
use Rattle.px_face.specs.Surfaces.{ShowsBackground}
use Rattle.px_control.specs.Program.{IsAt, total}
use Rattle.px_control.specs.Standing.{JobView}
use Rattle.px_sched.specs.Layouts.{layout_of}
use Rattle.px_sched.specs.PassesLaw.{ShowsThePicture}

-- the array is as all broadcasts of the scene leave it, its clocks included, and stores the picture,
-- which has face 0 exactly where no cell is a member
pub record IsDrawn (bits : ℕ) (scene : SceneView) (device : Device) : Type 0 where
  pub at : IsAt bits scene (total scene) device
  pub picture : ShowsThePicture scene (layout_of scene) (λ x y. (pixel_of device.state x y).memory)
  pub background : (x y : ℕ) → ShowsBackground scene x y

-- a job keeps its scene, and has made all clocks of it
pub record IsFinished (before now : JobView) : Type 0 where
  pub scene : now.scene ≡ before.scene
  pub clock : now.place.clock ≡ total before.scene

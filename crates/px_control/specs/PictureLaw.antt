-- The keys that an array stores after the whole program of a scene are the picture. Clauses of public calls
-- stand on it.
use Rattle.std.specs.Prelude.{ℕ, All}
use Rattle.px_array.specs.Arrays.{Device, pixel_of}
use Rattle.px_model.specs.Scenes.{IsLawfulScene, SceneView, IsLawfulSolid}
use Rattle.px_sched.specs.Layouts.{layout_of}
use Rattle.px_sched.specs.PassesLaw.{ShowsThePicture}
use Rattle.px_control.specs.Program.{IsAt, total}

abbrev pub PictureLaw : Type 0
PictureLaw = (bits : ℕ) (scene : SceneView) (device : Device) → IsLawfulScene scene → All IsLawfulSolid scene.solids →
    IsAt bits scene (total scene) device →
    ShowsThePicture scene (layout_of scene) (λ x y. (pixel_of device.state x y).memory)

-- An array on which the whole program of a scene was made, and then its shadow passes. Clauses of public calls
-- stand on it.
use Rattle.std.specs.Prelude.{◌≡◌, ℕ, ◌≤◌, List, length}
use Rattle.px_array.specs.declared.micro.Micro.{Micro}
use Rattle.px_array.specs.Arrays.{Device}
use Rattle.px_array.specs.Clocks.{all_clocked}
use Rattle.px_asm.specs.Micros.{all_micros}
use Rattle.px_normal.specs.declared.set.SolidSet.{SolidSet}
use Rattle.px_model.specs.Scenes.{SceneView}
use Rattle.px_sched.specs.Layouts.{layout_of}
use Rattle.px_control.specs.Program.{array_after, columns_of, rows_of, total}
use Rattle.px_shadow.specs.ShadowPasses.{need_with, shadow_passes}

-- the micros of the shadow passes, one after another
unfoldable pub shadow_program : SceneView → List SolidSet → List Micro
shadow_program scene lights = all_micros (shadow_passes scene (layout_of scene) lights) (columns_of scene)
    (rows_of scene)

-- what they make of the array that stores the picture, and as many clocks more
unfoldable pub shaded : (bits : ℕ) → SceneView → List SolidSet → Device
shaded bits scene lights = all_clocked (shadow_program scene lights) (array_after bits scene (total scene))

-- an array whose pixels have bits enough is as they leave it
pub record IsShaded (bits : ℕ) (scene : SceneView) (lights : List SolidSet) (device : Device) : Type 0 where
  pub enough : need_with (layout_of scene) (length lights) ≤ bits
  pub reached : device ≡ shaded bits scene lights

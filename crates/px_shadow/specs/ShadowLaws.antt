-- The shadow law: where a pixel stores what it shows, the shadow passes leave in it by which lights it is lit.
-- Clauses of public calls stand on it.
use Rattle.std.specs.Prelude.{◌≡◌, ℕ, ◌+◌, ◌<◌, ◌≤◌, All, List, length}
use Rattle.px_array.specs.Arrays.{Device, State}
use Rattle.px_num.specs.Bits.{bit_at}
use Rattle.px_macro.specs.Macros.{IsLawful, PixelBits, after_macros}
use Rattle.px_normal.specs.declared.set.SolidSet.{SolidSet}
use Rattle.px_normal.specs.Sets.{IsBelow}
use Rattle.px_model.specs.Scenes.{IsLawfulScene, SceneView, IsLawfulSolid}
use Rattle.px_model.specs.Cells.{picture}
use Rattle.px_sched.specs.Layouts.{LayoutView, layout_of}
use Rattle.px_sched.specs.PassesLaw.{HasSight}
use Rattle.px_control.specs.GridLaw.{CoversThePicture}
use Rattle.px_shadow.specs.Lights.{is_lit, light_at, mask_image}
use Rattle.px_shadow.specs.Shaded.{IsShaded}
use Rattle.px_shadow.specs.ShadowPasses.{light_bit, need_with, shadow_passes}
use Rattle.px_shadow.specs.Stored.{StoresTheLights, stored_masks}

-- at a pixel of the picture, whatever else its memory holds
abbrev pub ShadowLaw : Type 0
ShadowLaw = (scene : SceneView) → IsLawfulScene scene → All IsLawfulSolid scene.solids → (lights : List SolidSet) →
    (x y : ℕ) → x < scene.width → y < scene.height →
    (p : PixelBits) → need_with (layout_of scene) (length lights) ≤ length p.memory →
    HasSight (layout_of scene) p.memory (picture scene x y) →
    (place : ℕ) → place < length lights →
    bit_at (after_macros (shadow_passes scene (layout_of scene) lights) x y p).memory
    (light_bit (layout_of scene) (place + 1))
    ≡ is_lit scene (light_at lights place) x y

-- pixels of as many bits as are needed can carry the shadow passes out
abbrev pub ShadowPassesAreLawful : Type 0
ShadowPassesAreLawful = (scene : SceneView) → IsLawfulScene scene → All IsLawfulSolid scene.solids →
    (lights : List SolidSet) → All (IsBelow (length scene.solids)) lights →
    All (λ m. IsLawful m (need_with (layout_of scene) (length lights))) (shadow_passes scene (layout_of scene) lights)

-- so an array on which they were made stores the lights
abbrev pub ShadedLaw : Type 0
ShadedLaw = (bits : ℕ) (scene : SceneView) (lights : List SolidSet) (device : Device) →
    IsLawfulScene scene → All IsLawfulSolid scene.solids → All (IsBelow (length scene.solids)) lights →
    IsShaded bits scene lights device → StoresTheLights scene (layout_of scene) lights device.state

-- it is open, and has a pixel for each one of the picture
abbrev pub ShadedGridLaw : Type 0
ShadedGridLaw = (bits : ℕ) (scene : SceneView) (lights : List SolidSet) (device : Device) →
    IsLawfulScene scene → IsShaded bits scene lights device → CoversThePicture scene device

-- and the image of what it stores is that of the lights
abbrev pub MaskLaw : Type 0
MaskLaw = (scene : SceneView) (l : LayoutView) (lights : List SolidSet) (state : State) →
    StoresTheLights scene l lights state → stored_masks scene l (length lights) state ≡ mask_image scene lights

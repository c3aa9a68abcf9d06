-- By which lights each pixel is lit, as an array stores it. Clauses of public calls stand on it.
use Rattle.std.specs.Prelude.{◌≡◌, ℕ, ◌+◌, ◌<◌, List, length}
use Rattle.px_array.specs.Arrays.{State, pixel_of}
use Rattle.px_num.specs.Bits.{bit_at}
use Rattle.px_macro.specs.declared.field.Field.{Field}
use Rattle.px_normal.specs.declared.set.SolidSet.{SolidSet}
use Rattle.px_model.specs.Scenes.{SceneView}
use Rattle.px_sched.specs.Layouts.{LayoutView, field}
use Rattle.px_frame.specs.Picture.{image_of}
use Rattle.px_frame.specs.Stored.{stored_number}
use Rattle.px_shadow.specs.Lights.{is_lit, light_at}
use Rattle.px_shadow.specs.ShadowPasses.{light_bit}

-- the memory bits of so many lights, light 1 in the lowest
abbrev pub lights_field : LayoutView → (lights : ℕ) → Field
lights_field l lights = field (light_bit l 1) lights

abbrev pub stored_mask : LayoutView → (lights : ℕ) → State → (x y : ℕ) → ℕ
stored_mask l lights = stored_number (lights_field l lights)

abbrev pub stored_masks : SceneView → LayoutView → (lights : ℕ) → State → List ℕ
stored_masks scene l lights state = image_of scene.width scene.height (stored_mask l lights state)

-- each pixel of the picture has in its memory whether each light lights it
abbrev pub StoresTheLights : SceneView → LayoutView → List SolidSet → State → Type 0
StoresTheLights scene l lights state =
    (x y : ℕ) → x < scene.width → y < scene.height → (place : ℕ) → place < length lights →
    bit_at (pixel_of state x y).memory (light_bit l (place + 1)) ≡ is_lit scene (light_at lights place) x y

-- What `shadow` answers and leaves: by which lights each pixel is lit, where the lines after the scene part
-- name the lights.
-- Clauses of public calls stand on it.
use Rattle.std.specs.Prelude.{ℕ, ◌+◌, ◌==◌, pos, List, length, nat_lt, count_by, if◌then◌else◌, Option, Some}
use Rattle.std.specs.Prelude.{None, Result}
use Rattle.px_array.specs.Slots.{ArrayView}
use Rattle.px_scene.specs.Scenes.{SceneView}
use Rattle.px_scene.specs.Text.{worded}
use Rattle.px_scene.specs.Reading.{scene_of}
use Rattle.px_normal.specs.declared.set.SolidSet.{SolidSet}
use Rattle.px_asked.specs.Parts.{behind_part, scene_part}
use Rattle.px_sched.specs.Layouts.{layout_of}
use Rattle.px_shadow.specs.declared.light.LightFault.{LightFault}
use Rattle.px_shadow.specs.declared.light.LightFault.TheVariants as fault
use Rattle.px_shadow.specs.LightLines.{lights_fault, lights_of}
use Rattle.px_shadow.specs.Lights.{mask_image}
use Rattle.px_shadow.specs.Shaded.{IsShaded}
use Rattle.px_shadow.specs.ShadowPasses.{need_with}
use Rattle.px_commands.specs.declared.refusal.Kind.TheVariants as k
use Rattle.px_commands.specs.declared.refusal.Refusal.{Refusal}
use Rattle.px_commands.specs.declared.refusal.Refusal.TheVariants as r
use Rattle.px_commands.specs.declared.stop.Stop.{Stop}
use Rattle.px_commands.specs.declared.status.Status.{Status}
use Rattle.px_commands.specs.Arrays.{LeavesMade}
use Rattle.px_commands.specs.Ends.{Ends}
use Rattle.px_commands.specs.Inputs.{PerformsOver, WritesAndLeaves}
use Rattle.px_commands.specs.Outcomes.{Outcome, done, refused, unless_refused, within_products}
use Rattle.px_commands.specs.Refusals.{is_long, short_of_bits, text_refusal, too_long}
use Rattle.px_commands.specs.Results.{status_in}

-- the refusal of a light line
abbrev pub light_refusal : LightFault → Refusal
light_refusal (fault.Malformed line cause) = r.Malformed line cause
light_refusal (fault.Limit line found) = r.Limit line k.Lights (pos found)

abbrev pub light_refused : Option LightFault → Option Refusal
light_refused None = None
light_refused (Some found) = Some (light_refusal found)

-- why lines after the scene part, of which the first has this number, are refused
abbrev pub lights_refusal : SceneView → (first : ℕ) → (behind : List ℕ) → Option Refusal
lights_refusal scene first behind = light_refused (lights_fault scene.solids first (worded behind))

-- the lights that they name
abbrev pub lights_in : SceneView → (behind : List ℕ) → List SolidSet
lights_in scene behind = lights_of scene.solids (worded behind)

-- the number of the line behind so many bytes of whole lines
abbrev pub line_behind : List ℕ → ℕ
line_behind part = count_by (λ b. b == 10) part + 1

-- the outcome, where the passes of the scene and of so many lights need no more bits than a pixel has
abbrev pub within_lit_memory : (bits : ℕ) → SceneView → (lights : ℕ) → Outcome → Outcome
within_lit_memory bits scene lights outcome =
    if nat_lt bits (need_with (layout_of scene) lights)
    then refused (short_of_bits (need_with (layout_of scene) lights)) else outcome

-- the outcome, where an array with pixels of so many bits can find the shadows
abbrev pub lit_drawable : (bits : ℕ) → SceneView → (lights : ℕ) → Outcome → Outcome
lit_drawable bits scene lights outcome = within_lit_memory bits scene lights (within_products scene outcome)

-- the image of the lights
abbrev pub lit : (bits : ℕ) → SceneView → List SolidSet → Outcome
lit bits scene lights = lit_drawable bits scene (length lights) (done (mask_image scene lights))

-- what comes of a scene and the lines behind it
abbrev pub lit_by_lines : (bits : ℕ) → SceneView → (first : ℕ) → (behind : List ℕ) → Outcome
lit_by_lines bits scene first behind =
    unless_refused (lights_refusal scene first behind) (lit bits scene (lights_in scene behind))

-- the refusal of the scene part, otherwise what comes of its scene and the lines after it
abbrev pub parts_lit : (bits : ℕ) → (part behind : List ℕ) → Outcome
parts_lit bits part behind =
    unless_refused (text_refusal part) (lit_by_lines bits (scene_of (worded part)) (line_behind part) behind)

-- a text past its limit is refused before everything else
unfoldable pub shadowed : (bytes : List ℕ) → (bits : ℕ) → Outcome
shadowed bytes bits =
    if is_long bytes then refused too_long else parts_lit bits (scene_part bytes) (behind_part bytes)

-- what remains of the array where the shadow passes are made on the drawn scene
abbrev pub ShadesBy : Status → (bits : ℕ) → SceneView → List SolidSet → (before now : ArrayView) → Type 0
ShadesBy found bits scene lights before now = LeavesMade (IsShaded bits scene lights) found before now

abbrev pub ShadesParts : Status → (bits : ℕ) → (part behind : List ℕ) → (before now : ArrayView) → Type 0
ShadesParts found bits part behind before now =
    ShadesBy found bits (scene_of (worded part)) (lights_in (scene_of (worded part)) behind) before now

abbrev pub Shades : Status → (bits : ℕ) → (bytes : List ℕ) → (before now : ArrayView) → Type 0
Shades found bits bytes before now = ShadesParts found bits (scene_part bytes) (behind_part bytes) before now

-- what is written, and what remains of the array
abbrev pub LeavesShadows : Result (Unit {0}) Stop → (bits : ℕ) → (bytes : List ℕ) → (before after : Ends) → Type 0
LeavesShadows result bits bytes before after =
    WritesAndLeaves result (shadowed bytes bits) (λ old new. Shades (status_in result) bits bytes old new) before after

-- what the command does over an input
abbrev pub PerformsShadow : Result (Unit {0}) Stop → (bits : ℕ) → (before after : Ends) → Type 0
PerformsShadow result bits before after =
    PerformsOver result (λ bytes. shadowed bytes bits) (λ input. LeavesShadows result bits input.bytes before after)
    before after

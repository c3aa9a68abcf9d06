-- What is found of the shadows of a text that was read is found of the input, and what stops it.
use Rattle.px_num.proofs.Basics.{ℕ, ◌≡◌, ◌<◌, ◌≤◌, List, length, take, drop, unwrap_or, None, Result, arith, Err, refl}
use Rattle.px_num.proofs.Basics.{ap, sym, subst, ◌∙◌, Consumes}
use Rattle.px_shadow.proofs.Words.{ConsumesAtMost, done, IsFrontOf, LayoutView, lights_in, lights_refusal, line_behind}
use Rattle.px_shadow.proofs.Words.{lit_by_lines, lit_drawable, mask_image, Outcome, parts_lit, PerformsShadow, refusal}
use Rattle.px_shadow.proofs.Words.{refused, Shades, SinkState, SolidSet, State, stop_serves, stored_masks}
use Rattle.px_shadow.proofs.Words.{StoresTheLights, text_refusal, too_long, unless_refused, worded}
use Rattle.px_io.specs.declared.reading.ReadError.{ReadError}
use Rattle.px_scene.specs.Scenes.{SceneView}
use Rattle.px_scene.specs.Reading.{scene_of}
use Rattle.px_asked.specs.Parts.{behind_part, part_end, scene_part}
use Rattle.px_commands.specs.declared.refusal.Refusal.{Refusal}
use Rattle.px_commands.specs.declared.stop.Stop.{Stop}
use Rattle.px_commands.specs.Ends.{Ends, IsUntouched}
use Rattle.px_commands.specs.Results.{status_in, status_of}
use Rattle.px_shadow.proofs.ArrayLemmas.{mask_law}
use Rattle.px_shadow.specs.Shadows.{lit, shadowed}
use Rattle.px_commands.specs.Stops.{DoesWork, read_stop}
use Rattle.px_commands.proofs.FrontLaws.{LeavesAlike, ServesText, performs_served, text_serves}
use Rattle.px_commands.proofs.FrontLaws as front
use Rattle.px_commands.proofs.LimitLaws.{long_is, short_is}
use Rattle.px_commands.proofs.StopLaws.{read_leaves, refused_leaves}
use Rattle.px_shadow.specs.Shaded.{IsShaded}
use Rattle.px_array.specs.Arrays.{Device}
use Rattle.px_commands.specs.declared.stop.Stop.TheVariants as s
use Rattle.px_commands.specs.declared.stop.SceneStop.TheVariants as halted

-- a text past its limit, and one within it
pub long_shadowed : (bytes : List ℕ) (bits : ℕ) → 1048577 ≤ length bytes → shadowed bytes bits ≡ refused too_long
unfolding shadowed
long_shadowed bytes bits long = rw (long_is bytes long) refl

pub short_shadowed : (bytes : List ℕ) (bits : ℕ) → length bytes < 1048577
    → shadowed bytes bits ≡ parts_lit bits (scene_part bytes) (behind_part bytes)
unfolding shadowed
short_shadowed bytes bits short = rw (short_is bytes short) refl

-- the shadow passes of a text were made
abbrev IsShadedBy : (bits : ℕ) → (text : List ℕ) → Device → Type 0
IsShadedBy bits text device =
    IsShaded bits (scene_of (worded (scene_part text))) (lights_in (scene_of (worded (scene_part text))) (behind_part text))
    device

-- the shadows of a text are found
abbrev pub ShadesText : Result (Unit {0}) Stop → (bits : ℕ) → (before after : Ends) → (text : List ℕ) → Type 0
ShadesText result bits before after text =
    ServesText result (λ text. shadowed text bits) (λ text old new. Shades (status_in result) bits text old new)
    before after text

shades_alike : (result : Result (Unit {0}) Stop) (bits : ℕ)
    → LeavesAlike result (λ text old new. Shades (status_in result) bits text old new)
shades_alike result bits one other before now long meets is =
    refused_leaves result too_long (IsShadedBy bits one) (IsShadedBy bits other) before now meets is

-- a text that was read answers for the input
pub performs_shades : (result : Result (Unit {0}) Stop) (text lent : List ℕ) (bits : ℕ) (before after : Ends)
    → IsFrontOf before.rest 1048577 text → Consumes before.rest after.rest text → lent ≡ text
    → DoesWork result (shadowed lent bits) before.out after.out
    → Shades (status_in result) bits lent before.array after.array → PerformsShadow result bits before after
performs_shades result text lent bits before after front consumed same serves array =
    let read : ShadesText result bits before after text =
    subst (λ t. ShadesText result bits before after t) same (record { serves = serves; array = array }) in
    performs_served result (λ text. shadowed text bits) (λ text old new. Shades (status_in result) bits text old new)
    before after text consumed
    (text_serves result (λ text. shadowed text bits) (λ text old new. Shades (status_in result) bits text old new)
    before after text (λ text le. long_shadowed text bits le)
    (shades_alike result bits) front read)

-- the work stops at a read, whatever the text is
pub performs_unread : (bits : ℕ) (fault : ReadError) (before after : Ends) → IsUntouched before after
    → ConsumesAtMost before.rest after.rest 1048577 → PerformsShadow (Err (read_stop fault)) bits before after
performs_unread bits fault before after idle took =
    front.performs_unread fault (λ text. shadowed text bits)
    (λ text old new. Shades (status_of (read_stop fault)) bits text old new) before after idle took
    (λ text. read_leaves fault (IsShadedBy bits text) before.array)

pub serves_refused : (reason : Refusal) (o : Outcome) (a : SinkState) → o ≡ refused reason
    → DoesWork (Err (s.Refused reason)) o a a
serves_refused reason o a is = stop_serves (halted.Refused reason) (λ x. o) o a (λ x. ap refusal is)

-- what comes of the parts of a text within its limit comes of it
pub parts_serve : (result : Result (Unit {0}) Stop) (text part behind : List ℕ) (n bits : ℕ) (a b : SinkState)
    → length text < 1048577 → n ≡ unwrap_or (part_end text) (length text) → part ≡ take n text → behind ≡ drop n text
    → DoesWork result (parts_lit bits part behind) a b → DoesWork result (shadowed text bits) a b
parts_serve result text part behind n bits a b short count front rest serves =
    let one : part ≡ scene_part text = front ∙ ap (λ i. take i text) count in
    let two : behind ≡ behind_part text = rest ∙ ap (λ i. drop i text) count in
    subst (λ o. DoesWork result o a b) (sym (short_shadowed text bits short))
    (subst (λ t. DoesWork result (parts_lit bits t (behind_part text)) a b) one
    (subst (λ t. DoesWork result (parts_lit bits part t) a b) two serves))

-- an array that can find the shadows does
pub lit_is : (bits : ℕ) (scene : SceneView) (lights : List SolidSet) (n : ℕ) → n ≡ length lights
    → ((o : Outcome) → lit_drawable bits scene n o ≡ o) → lit bits scene lights ≡ done (mask_image scene lights)
lit_is bits scene lights n same fits = grind (arith, done)

-- and the image of what it stores is that of the lights
pub masks_are : (scene : SceneView) (l : LayoutView) (lights : List SolidSet) (n : ℕ) (state : State)
    → n ≡ length lights → StoresTheLights scene l lights state → stored_masks scene l n state ≡ mask_image scene lights
masks_are scene l lights n state same stores =
    ap (λ k. stored_masks scene l k state) same ∙ mask_law scene l lights state stores

-- what the scene of a good part and the lights of good lines serve is what the part and the lines do
pub lights_serve : (result : Result (Unit {0}) Stop) (bits : ℕ) (part behind : List ℕ) (scene : SceneView) (first : ℕ)
    (lights : List SolidSet) (a b : SinkState) → text_refusal part ≡ None → scene ≡ scene_of (worded part)
    → first ≡ line_behind part → lights_refusal scene first behind ≡ None → lights ≡ lights_in scene behind
    → DoesWork result (lit bits scene lights) a b → DoesWork result (parts_lit bits part behind) a b
lights_serve result bits part behind scene first lights a b good is begins known named served =
    let same : parts_lit bits part behind ≡ lit bits scene lights =
    ap (λ r. unless_refused r (lit_by_lines bits (scene_of (worded part)) (line_behind part) behind)) good
    ∙ ap (λ s. lit_by_lines bits s (line_behind part) behind) (sym is)
    ∙ ap (λ f. lit_by_lines bits scene f behind) (sym begins)
    ∙ ap (λ r. unless_refused r (lit bits scene (lights_in scene behind))) known ∙ ap (lit bits scene) (sym named) in
    subst (λ o. DoesWork result o a b) (sym same) served

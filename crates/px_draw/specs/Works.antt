-- What is made of the scene that is the whole input, and what remains of the array. Clauses of public calls
-- stand on it.
use Rattle.std.specs.Prelude.{◌≡◌, ℕ, List, [], ◌∷◌, Result, length}
use Rattle.px_array.specs.Slots.{ArrayView}
use Rattle.px_scene.specs.Scenes.{names_of, SceneView}
use Rattle.px_scene.specs.Canonical.{canonical_text}
use Rattle.px_scene.specs.Text.{worded}
use Rattle.px_scene.specs.Reading.{scene_of}
use Rattle.px_normal.specs.Forms.{sum_of_products}
use Rattle.px_normal.specs.Counting.{capped}
use Rattle.px_prune.specs.Kept.{plan_of}
use Rattle.px_sched.specs.Passes.{passes}
use Rattle.px_control.specs.Program.{total}
use Rattle.px_frame.specs.declared.plane.Plane.TheVariants as p
use Rattle.px_frame.specs.Images.{images}
use Rattle.px_frame.specs.Finer.{fine_scene}
use Rattle.px_listing.specs.Listings as listing
use Rattle.px_listing.specs.PassesText.{passes_listing}
use Rattle.px_frame.specs.Refined.{doublings}
use Rattle.px_commands.specs.declared.command.Work.{Work}
use Rattle.px_commands.specs.declared.command.Work.TheVariants as w
use Rattle.px_commands.specs.CostText.{cost_text}
use Rattle.px_commands.specs.Plans.{plan_text}
use Rattle.px_commands.specs.declared.stop.Stop.{Stop}
use Rattle.px_commands.specs.declared.status.Status.{Status}
use Rattle.px_commands.specs.Arrays.{Draws}
use Rattle.px_commands.specs.Ends.{Ends}
use Rattle.px_commands.specs.Inputs.{PerformsOver, WritesAndLeaves}
use Rattle.px_commands.specs.Outcomes.{Outcome, done, drawable, unless_refused, within_products}
use Rattle.px_commands.specs.Refusals.{text_refusal}
use Rattle.px_commands.specs.Results.{status_in}
use Rattle.px_draw.specs.Refining.{refined}
use Rattle.px_draw.specs.Tiling.{DrawsTiles, tiled}

-- the scene's canonical text
abbrev pub tidied : SceneView → Outcome
tidied scene = done (canonical_text scene)

-- the products of the shown expression that can show anything
abbrev pub planned : SceneView → Outcome
planned scene = within_products scene (done (plan_text
    (names_of scene.solids) (capped (length (sum_of_products scene.show))) (plan_of scene)))

-- the text of the scene's grid and passes, where an array with pixels of so many bits can draw the scene
abbrev pub listed : SceneView → (bits : ℕ) → Outcome
listed scene bits = drawable bits scene (done (listing.canonical_listing (passes_listing scene)))

-- what comes of a scene
abbrev pub made : Work → SceneView → (bits : ℕ) → Outcome
made w.Render scene bits = drawable bits scene (done (images scene (p.Depth ∷ p.Face ∷ [])))
made w.Colour scene bits = drawable bits scene (done (images scene (p.Colour ∷ [])))
made w.Tidy scene bits = tidied scene
made w.Plan scene bits = planned scene
made w.Cost scene bits = drawable bits scene (done (cost_text (length (passes scene)) (total scene)))
made (w.Refine fineness) scene bits = refined (doublings fineness) scene bits
made (w.Tile size) scene bits = tiled size scene bits
made w.List scene bits = listed scene bits

-- the refusal of the text, otherwise what comes of its scene
abbrev pub worked_out : Work → List ℕ → (bits : ℕ) → Outcome
worked_out work bytes bits = unless_refused (text_refusal bytes) (made work (scene_of (worded bytes)) bits)

-- what remains of the array: all but what draws leaves it as before, whatever the status
abbrev pub LeavesArray : Work → Status → (bits : ℕ) → SceneView → (before now : ArrayView) → Type 0
LeavesArray w.Render status bits scene before now = Draws status bits scene before now
LeavesArray w.Colour status bits scene before now = Draws status bits scene before now
LeavesArray (w.Refine fineness) status bits scene before now =
    Draws status bits (fine_scene (doublings fineness) scene) before now
LeavesArray (w.Tile size) status bits scene before now = DrawsTiles status bits size scene before now
LeavesArray work status bits scene before now = now ≡ before

-- what is written, and what remains of the array
abbrev pub LeavesWork : Work → Result (Unit {0}) Stop → (bits : ℕ) → (bytes : List ℕ) → (before after : Ends) → Type 0
LeavesWork work result bits bytes before after =
    WritesAndLeaves result (worked_out work bytes bits)
    (λ old new. LeavesArray work (status_in result) bits (scene_of (worded bytes)) old new) before after

-- what the command does over an input
abbrev pub PerformsWork : Work → Result (Unit {0}) Stop → (bits : ℕ) → (before after : Ends) → Type 0
PerformsWork work result bits before after =
    PerformsOver result (λ bytes. worked_out work bytes bits)
    (λ input. LeavesWork work result bits input.bytes before after) before after

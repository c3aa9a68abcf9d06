-- What was made of a text that was read, it was made of the input.
use Rattle.px_num.proofs.Basics.{rules}
use Rattle.px_num.proofs.Basics.{ℕ, ◌≡◌, ◌≤◌, List, length, Some, None, Result, Err, refl, Consumes}
use Rattle.px_io.specs.Reports.{ConsumesAtMost, IsFrontOf}
use Rattle.px_io.specs.declared.reading.ReadError.{ReadError}
use Rattle.px_array.specs.Slots.{ArrayView}
use Rattle.px_scene.specs.Scenes.{SceneView}
use Rattle.px_scene.specs.Text.{worded}
use Rattle.px_scene.specs.Reading.{scene_of}
use Rattle.px_commands.specs.declared.command.Work.{Work}
use Rattle.px_commands.specs.declared.refusal.Refusal.{Refusal}
use Rattle.px_commands.specs.declared.status.Status.{Status}
use Rattle.px_commands.specs.declared.stop.Stop.{Stop}
use Rattle.px_commands.specs.declared.stop.SceneStop.{SceneStop}
use Rattle.px_commands.specs.Outcomes.{refused, unless_refused}
use Rattle.px_commands.specs.Refusals.{text_refusal, too_long}
use Rattle.px_commands.specs.Ends.{Ends, IsUntouched}
use Rattle.px_commands.specs.Results.{status_in, status_of}
use Rattle.px_commands.specs.Stops.{DoesWork, StopsAt, read_stop, stopped}
use Rattle.px_draw.specs.Works.{LeavesArray, PerformsWork, made, worked_out}
use Rattle.px_commands.proofs.FrontLaws.{LeavesAlike, ServesText, performs_served, performs_unread, text_serves}
use Rattle.px_commands.proofs.LimitLaws.{past_limit}
use Rattle.px_commands.proofs.RunLaws.{bytes_of}
use Rattle.px_commands.proofs.StopLaws.{stop_serves}

-- the array is left as by the scene of a text; a refused text leaves what it would of any scene
pub record LeavesWorked (work : Work) (found : Status) (bits : ℕ) (text : List ℕ) (before now : ArrayView) : Type 0
  where
    pub array : LeavesArray work found bits (scene_of (worded text)) before now
    pub refused : (reason : Refusal) → text_refusal text ≡ Some reason → (scene : SceneView)
        → LeavesArray work found bits scene before now

-- something is made of a scene, where a text was read
abbrev pub WorksText : Result (Unit {0}) Stop → Work → (bits : ℕ) → (before after : Ends) → (text : List ℕ) → Type 0
WorksText result work bits before after text =
    ServesText result (λ text. worked_out work text bits)
    (λ text old new. LeavesWorked work (status_in result) bits text old new) before after text

-- a text past the limit is refused for it
long_refused : (text : List ℕ) → 1048577 ≤ length text → text_refusal text ≡ Some too_long
long_refused text le = rw (past_limit (length text) le) refl

long_worked : (work : Work) (bits : ℕ) (text : List ℕ) → 1048577 ≤ length text
    → worked_out work text bits ≡ refused too_long
long_worked work bits text le = rw (long_refused text le) refl

works_alike : (result : Result (Unit {0}) Stop) (work : Work) (bits : ℕ)
    → LeavesAlike result (λ text old new. LeavesWorked work (status_in result) bits text old new)
works_alike result work bits one other before now long meets is = record {
  array = is.refused too_long (long_refused one long) (scene_of (worded other));
  refused = λ reason bad scene. is.refused too_long (long_refused one long) scene;
}

-- a text that was read answers for the input
pub performs_text : (result : Result (Unit {0}) Stop) (work : Work) (text : List ℕ) (bits : ℕ) (before after : Ends)
    → IsFrontOf before.rest 1048577 text → Consumes before.rest after.rest text
    → WorksText result work bits before after text → PerformsWork work result bits before after
performs_text result work text bits before after front consumed works =
    let whole : WorksText result work bits before after (bytes_of before.rest text) =
    text_serves result (λ text. worked_out work text bits)
    (λ text old new. LeavesWorked work (status_in result) bits text old new) before after text (long_worked work bits)
    (works_alike result work bits) front works in
    performs_served result (λ text. worked_out work text bits)
    (λ text old new. LeavesArray work (status_in result) bits (scene_of (worded text)) old new) before after text
    consumed (record { serves = whole.serves; array = whole.array.array })

-- an array that is as before is what a read that failed leaves, and a scene that is not served
read_array : (work : Work) (bits : ℕ) (scene : SceneView) (array : ArrayView) (fault : ReadError)
    → LeavesArray work (status_of (read_stop fault)) bits scene array array
read_array work bits scene array fault = search rules

stop_array : (work : Work) (bits : ℕ) (scene : SceneView) (array : ArrayView) (stop : SceneStop)
    → LeavesArray work (status_of (stopped stop)) bits scene array array
stop_array work bits scene array stop = search rules

-- the work stops at a read, whatever the text is
pub performs_read : (work : Work) (bits : ℕ) (fault : ReadError) (before after : Ends) → IsUntouched before after
    → ConsumesAtMost before.rest after.rest 1048577 → PerformsWork work (Err (read_stop fault)) bits before after
performs_read work bits fault before after idle took =
    performs_unread fault (λ text. worked_out work text bits)
    (λ text old new. LeavesArray work (status_of (read_stop fault)) bits (scene_of (worded text)) old new) before after
    idle took (λ text. read_array work bits (scene_of (worded text)) before.array fault)

-- the work stops at its text
pub works_text : (work : Work) (bytes lent : List ℕ) (bits : ℕ) (stop : SceneStop) (before after : Ends)
    → lent ≡ bytes → StopsAt (unless_refused (text_refusal lent)) stop → after.out ≡ before.out
    → after.array ≡ before.array → WorksText (Err (stopped stop)) work bits before after bytes
works_text work bytes lent bits stop before after same stops out array = record {
  serves = rw out (stop_serves stop (unless_refused (text_refusal bytes)) (made work (scene_of (worded bytes)) bits)
      before.out (rw same at stops));
  array = record {
    array = rw array (stop_array work bits (scene_of (worded bytes)) before.array stop);
    refused = λ reason bad scene. rw array (stop_array work bits scene before.array stop);
  };
}

-- something is made of the scene of a text
pub works_scene : (result : Result (Unit {0}) Stop) (work : Work) (bytes lent : List ℕ) (bits : ℕ) (scene : SceneView)
    (before after : Ends) → lent ≡ bytes → text_refusal lent ≡ None → scene ≡ scene_of (worded lent)
    → DoesWork result (made work scene bits) before.out after.out
    → LeavesArray work (status_in result) bits scene before.array after.array
    → WorksText result work bits before after bytes
works_scene result work bytes lent bits scene before after same good is serves array = search rules

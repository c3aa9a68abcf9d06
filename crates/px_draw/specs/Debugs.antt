-- What `debug` answers and leaves: a session over the bytes of an input. Clauses of public calls stand on it.
use Rattle.std.specs.Prelude.{◌≡◌, ◌⊎◌, ℕ, List, Bool, true, false, ◌&&◌, not, if◌then◌else◌}
use Rattle.std.specs.Prelude.{take, None, Result, Ok, Err}
use Rattle.px_io.specs.Reports.{TakesNone}
use Rattle.px_text.specs.declared.text.TheConstants.{MAX_TEXT_BYTES}
use Rattle.px_array.specs.Slots.{ArrayView, IsRunOnce, none_open}
use Rattle.px_scene.specs.Scenes.{SceneView}
use Rattle.px_scene.specs.Text.{worded}
use Rattle.px_scene.specs.Reading.{scene_of}
use Rattle.px_control.specs.Program.{IsAt}
use Rattle.px_debug.specs.Moves.{Fits, SessionView}
use Rattle.px_asked.specs.Lines.{all_lines, whole_lines}
use Rattle.px_asked.specs.Parts.{behind_part, holds_part, scene_part}
use Rattle.px_debug.specs.Servings.{Answered, Breaks}
use Rattle.px_debug.specs.Sessions.{Sitting, session_opened, sitting, stand}
use Rattle.px_commands.specs.declared.refusal.Refusal.TheVariants as r
use Rattle.px_commands.specs.declared.stop.Stop.{Stop}
use Rattle.px_commands.specs.declared.stop.Stop.TheVariants as s
use Rattle.px_commands.specs.Ends.{Ends, Input, IsUntouched}
use Rattle.px_commands.specs.Inputs.{PerformsOver}
use Rattle.px_commands.specs.Outcomes.{Outcome, cut, done, drawable, refused, unless_refused}
use Rattle.px_commands.specs.Refusals.{is_long, text_refusal, too_long}

-- the bytes that count: as many as a text may have
abbrev pub within_limit : List ℕ → List ℕ
within_limit bytes = take MAX_TEXT_BYTES bytes

-- the scene part
unfoldable pub scene_part_of : List ℕ → List ℕ
scene_part_of bytes = scene_part (within_limit bytes)

-- whether it is whole, though the bytes may not be all
unfoldable pub has_part : List ℕ → Bool
has_part bytes = holds_part (within_limit bytes)

-- its scene
unfoldable pub scene_written : (part : List ℕ) → SceneView
scene_written part = scene_of (worded part)

abbrev pub part_scene : List ℕ → SceneView
part_scene bytes = scene_written (scene_part_of bytes)

-- the bytes behind it
unfoldable pub command_text : List ℕ → List ℕ
command_text bytes = behind_part (within_limit bytes)

-- the command lines: those that line feeds end, and with them a last piece
abbrev pub whole_commands : List ℕ → List (List ℕ)
whole_commands bytes = whole_lines (command_text bytes)

abbrev pub all_commands : List ℕ → List (List ℕ)
all_commands bytes = all_lines (command_text bytes)

-- the session at its start
abbrev pub session_of : List ℕ → SessionView
session_of bytes = session_opened (part_scene bytes)

-- and over the command lines, without a last piece and with it
abbrev pub whole_sitting : (bits : ℕ) → (bytes : List ℕ) → Sitting
whole_sitting bits bytes = sitting bits (session_of bytes) (whole_commands bytes)

abbrev pub all_sitting : (bits : ℕ) → (bytes : List ℕ) → Sitting
all_sitting bits bytes = sitting bits (session_of bytes) (all_commands bytes)

-- the outcome, where a scene part is a scene's, and the array can draw it
unfoldable pub admitted : (part : List ℕ) → (bits : ℕ) → Outcome → Outcome
admitted part bits outcome = unless_refused (text_refusal part) (drawable bits (scene_written part) outcome)

-- the answers to the commands up to a quit; past the limit of a text, where no whole line before is a quit, to
-- those lines, and then the refusal
unfoldable pub answered : (bytes : List ℕ) → (bits : ℕ) → Outcome
answered bytes bits =
    if is_long bytes && not (whole_sitting bits bytes).quit then cut (whole_sitting bits bytes).said too_long
    else done (all_sitting bits bytes).said

-- a scene part that is not whole within the limit of a text is past it
unfoldable pub debugged : (bytes : List ℕ) → (bits : ℕ) → Outcome
debugged bytes bits =
    if is_long bytes && not (has_part bytes) then refused too_long else admitted (scene_part_of bytes) bits
    (answered bytes bits)

-- from the start of a session on all of the lines were answered, and the output was then finished where `ends` is
-- true; the array is as the session leaves it
pub record IsAnswered (ends : Bool) (bits : ℕ) (from : SessionView) (lines : List (List ℕ)) (before after : Ends) :
    Type 0 where
  pub now : SessionView
  pub answered : Answered ends (stand from 0 before.out) (stand now after.array.work after.out)
      (sitting bits from lines)
  pub fits : Fits bits now after.array

-- a write failed in the answer to one of the lines, or in finishing behind the last; the array is as the
-- session leaves it
pub record IsBroken (bits : ℕ) (from : SessionView) (lines : List (List ℕ)) (before after : Ends) : Type 0 where
  pub now : SessionView
  pub broken : Breaks bits (stand from 0 before.out) (stand now after.array.work after.out) lines
  pub fits : Fits bits now after.array

-- the scene part of some bytes is a scene's that an array with pixels of so many bits can draw
abbrev pub Admits : (bits : ℕ) → (bytes : List ℕ) → Type 0
Admits bits bytes = (outcome : Outcome) → admitted (scene_part_of bytes) bits outcome ≡ outcome

-- a write failed after a scene part that is a scene's that the array can draw
pub record IsBrokenOff (bits : ℕ) (taken : List ℕ) (before after : Ends) : Type 0 where
  pub admits : Admits bits taken
  pub broken : IsBroken bits (session_of taken) (all_commands taken) before after

-- a read failed behind a whole scene part: it is a scene's that the array can draw, no whole command is a quit,
-- and all are answered
pub record IsCutOff (bits : ℕ) (taken : List ℕ) (before after : Ends) : Type 0 where
  pub admits : Admits bits taken
  pub quiet : (whole_sitting bits taken).quit ≡ false
  pub answered : IsAnswered false bits (session_of taken) (whole_commands taken) before after

-- and where the scene part was not whole, nothing is done
pub record LeavesAtReadFault (bits : ℕ) (taken : List ℕ) (before after : Ends) : Type 0 where
  pub whole : has_part taken ≡ true → IsCutOff bits taken before after
  pub other : has_part taken ≡ false → IsUntouched before after

-- at a limit: that of the text after a scene part, or another
abbrev pub LeavesAtLimit : Outcome → (bits : ℕ) → (bytes : List ℕ) → (before after : Ends) → Type 0
LeavesAtLimit (cut text reason) bits bytes before after =
    IsAnswered false bits (session_of bytes) (whole_commands bytes) before after
LeavesAtLimit outcome bits bytes before after = IsUntouched before after

-- if memory runs out the array is as before, or none is open, or it is opened for the scene
abbrev pub IsKeptOrOpened : (bits : ℕ) → SceneView → (before now : ArrayView) → Type 0
IsKeptOrOpened bits scene before now = (now ≡ before) ⊎ (now ≡ none_open)
    ⊎ (IsAt bits scene 0 now.device × IsRunOnce now)

-- and only after a scene part that is accepted is it not as before
abbrev pub LeavesAtMemory : (bits : ℕ) → (taken : List ℕ) → (before now : ArrayView) → Type 0
LeavesAtMemory bits taken before now =
    (now ≡ before) ⊎ ((text_refusal (scene_part_of taken) ≡ None) × IsKeptOrOpened bits (part_scene taken) before now)

-- what is written, and what remains of the array
abbrev pub LeavesSession : Result (Unit {0}) Stop → (bits : ℕ) → Input → (before after : Ends) → Type 0
LeavesSession (Ok u) bits input before after =
    IsAnswered true bits (session_of input.bytes) (all_commands input.bytes) before after
LeavesSession (Err (s.Refused (r.Limit line kind found))) bits input before after =
    LeavesAtLimit (debugged input.bytes bits) bits input.bytes before after
LeavesSession (Err s.ReadFault) bits input before after = LeavesAtReadFault bits input.taken before after
LeavesSession (Err s.WriteFault) bits input before after = IsBrokenOff bits input.taken before after
LeavesSession (Err (s.Memory _)) bits input before after =
    TakesNone before.out after.out × LeavesAtMemory bits input.taken before.array after.array
LeavesSession (Err stop) bits input before after = IsUntouched before after

-- what a session does over an input
abbrev pub PerformsSession : Result (Unit {0}) Stop → (bits : ℕ) → (before after : Ends) → Type 0
PerformsSession result bits before after =
    PerformsOver result (λ bytes. debugged bytes bits) (λ input. LeavesSession result bits input before after) before
    after

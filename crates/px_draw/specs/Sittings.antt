-- What the pieces of `debug` say by their results. Only proofs and private functions stand on it.
use Rattle.std.specs.Prelude.{◌≡◌, ◌≢◌, ⊤, ℕ, ◌-◌, ◌<◌, ◌≤◌, List, [], ◌++◌, false, ◌&&◌, not, Option, None}
use Rattle.std.specs.Prelude.{Result, Ok, Err, is_some, length, unwrap_or}
use Rattle.std.specs.Io.KnownBytes.{Consumes, IsAtEnd}
use Rattle.px_array.specs.Slots.{ArrayView}
use Rattle.px_scene.specs.Scenes.{SceneView}
use Rattle.px_asked.specs.Parts.{part_end}
use Rattle.px_asked.specs.declared.reading.Opening.{Opening}
use Rattle.px_debug.specs.Prompts.{Moment}
use Rattle.px_debug.specs.Servings.{Serves, seen}
use Rattle.px_debug.specs.declared.serving.Ending.{Ending}
use Rattle.px_debug.specs.declared.serving.Ending.TheVariants as e
use Rattle.px_commands.specs.declared.refusal.TheConstants.{READ_LIMIT}
use Rattle.px_commands.specs.declared.status.Status.{Status}
use Rattle.px_commands.specs.declared.status.Status.TheVariants as status
use Rattle.px_commands.specs.declared.stop.SceneStop.{SceneStop}
use Rattle.px_commands.specs.declared.stop.SceneStop.TheVariants as halted
use Rattle.px_commands.specs.declared.stop.Stop.{Stop}
use Rattle.px_commands.specs.declared.stop.Stop.TheVariants as s
use Rattle.px_commands.specs.Outcomes.{refused}
use Rattle.px_commands.specs.Refusals.{is_long, text_refusal, too_long}
use Rattle.px_draw.specs.Debugs.{IsKeptOrOpened, command_text, debugged, has_part, part_scene, scene_part_of}
use Rattle.px_draw.specs.Debugs.{within_limit}

-- how many bytes may yet be read behind some
abbrev pub more_than : List ℕ → ℕ
more_than text = READ_LIMIT - length text

-- bytes that were read, with more behind them, have the same scene part
pub record Grown (o : Opening) (more : List ℕ) : Type 0 where
  pub part : scene_part_of (o.text.items ++ more) ≡ scene_part_of o.text.items
  pub behind : command_text (o.text.items ++ more) ≡ command_text o.text.items ++ seen (more_than o.text.items) more
  pub whole : has_part (o.text.items ++ more) ≡ is_some o.part
  pub within : (is_long (o.text.items ++ more) && not (has_part (o.text.items ++ more))) ≡ false

-- what may come behind them: nothing, where the scene part is not whole and they are the whole input
abbrev pub MayFollow : Opening → (more : List ℕ) → Type 0
MayFollow o more = o.part ≡ None → length o.text.items < READ_LIMIT → more ≡ []

-- a scene part that is not whole is not past the limit of a text
abbrev pub IsShort : Opening → Type 0
IsShort o = o.part ≡ None → length o.text.items < READ_LIMIT

-- the bytes that were read, and where the scene part ends in them
pub record IsOpening (o : Opening) : Type 0 where
  pub few : length o.text.items ≤ READ_LIMIT
  pub part : o.part ≡ part_end (within_limit o.text.items)
  pub within : unwrap_or o.part (length (within_limit o.text.items)) ≤ length (within_limit o.text.items)
  pub grown : IsShort o → (more : List ℕ) → MayFollow o more → Grown o more

-- an input was read until its scene part was whole, or to its end or its limit
pub record Opens (o : Opening) (known_old known_new : Option (List ℕ)) : Type 0 where
  pub taken : Consumes known_old known_new o.text.items
  pub opening : IsOpening o
  pub end : o.part ≡ None → length o.text.items < READ_LIMIT → IsAtEnd known_new

-- the scene part is this scene's, and this was read behind it
pub record IsSceneOf (o : Opening) (found : SceneView) (behind : List ℕ) : Type 0 where
  pub good : text_refusal (scene_part_of o.text.items) ≡ None
  pub scene : found ≡ part_scene o.text.items
  pub commands : behind ≡ command_text o.text.items
  pub none : o.part ≡ None → behind ≡ []
  pub short : IsShort o

-- a refusal is that of the bytes that were read, whatever follows them
abbrev pub Refuses : (bits : ℕ) → Opening → SceneStop → Type 0
Refuses bits o (halted.Refused reason) =
    (more : List ℕ) → MayFollow o more → debugged (o.text.items ++ more) bits ≡ refused reason
Refuses bits o (halted.Memory _) = ⊤

-- lines after the scene part were answered; where it is not whole there is none, and the input is at its end
pub record Sits (o : Opening) (ending : Ending) (bits : ℕ) (read : List ℕ) (was now : Moment) : Type 0 where
  pub serves : Serves ending bits read (more_than o.text.items) was now
  pub idle : o.part ≡ None → (serves.bytes ≡ []) × (serves.prompts.asks ≡ []) × IsAtEnd now.rest
      × (ending ≢ e.ReadFault)

-- what remains of the array where no session began
abbrev pub LeavesClosed : Status → (bits : ℕ) → SceneView → (before now : ArrayView) → Type 0
LeavesClosed (status.Memory _) bits scene before now = IsKeptOrOpened bits scene before now
LeavesClosed found bits scene before now = now ≡ before

-- the result of a session that ended so
abbrev pub result_of : Ending → Result (Unit {0}) Stop
result_of e.Quit = Ok tt
result_of e.End = Ok tt
result_of e.Long = Err (s.Refused too_long)
result_of e.ReadFault = Err s.ReadFault
result_of e.WriteFault = Err s.WriteFault

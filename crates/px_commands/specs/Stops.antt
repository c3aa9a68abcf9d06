-- What a piece of the work says by its result. Clauses of public calls stand on it.
use Rattle.std.specs.Prelude.{ℕ, ◌≡◌, ◌≢◌, ⊤, Option, Some, None, Result, Err}
use Rattle.px_num.specs.Want.{want}
use Rattle.px_io.specs.Counts.{Rose}
use Rattle.px_io.specs.Reports.{SinkState}
use Rattle.px_io.specs.declared.reading.ReadError.{ReadError}
use Rattle.px_io.specs.declared.reading.ReadError.TheVariants as read
use Rattle.px_commands.specs.declared.refusal.Refusal.{Refusal}
use Rattle.px_commands.specs.declared.stop.SceneStop.{SceneStop}
use Rattle.px_commands.specs.declared.stop.SceneStop.TheVariants as halted
use Rattle.px_commands.specs.declared.stop.Stop.{Stop}
use Rattle.px_commands.specs.declared.stop.Stop.TheVariants as s
use Rattle.px_commands.specs.Outcomes.{Outcome, output, refusal}
use Rattle.px_commands.specs.Results.{HasCauses, Meets, Wrote}

-- the stop of a scene that was not served, and of an input that was not read
abbrev pub stopped : SceneStop → Stop
stopped (halted.Refused reason) = s.Refused reason
stopped (halted.Memory m) = s.Memory m

abbrev pub read_stop : ReadError → Stop
read_stop read.Failed = s.ReadFault
read_stop (read.Memory m) = s.Memory m

-- a refusal, or, where there is none, that memory ran out
abbrev pub stop_at : Option Refusal → SceneStop
stop_at (Some reason) = halted.Refused reason
stop_at None = halted.Memory want

-- what a piece of the work that reads nothing does for an outcome
pub record DoesWork (result : Result (Unit {0}) Stop) (o : Outcome) (before after : SinkState) : Type 0 where
  pub meets : Meets result o
  pub writes : Wrote result (output o) before after
  pub causes : (n : ℕ) → HasCauses result n n before.faults after.faults
  pub worded : result ≢ Err s.Usage
  pub reads : result ≢ Err s.ReadFault

-- why an input was not read, by its count of faults
abbrev pub IsReadCause : ReadError → (old new : ℕ) → Type 0
IsReadCause read.Failed old new = Rose old new
IsReadCause (read.Memory _) old new = new ≡ old

-- a scene was not served, as these limits of outcomes say, or memory ran out
abbrev pub StopsAt : (limits : Outcome → Outcome) → SceneStop → Type 0
StopsAt limits (halted.Refused reason) = (o : Outcome) → refusal (limits o) ≡ Some reason
StopsAt limits (halted.Memory _) = ⊤

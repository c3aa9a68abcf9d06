-- What a run comes to, and what each result says of the outcome and of the ends. Clauses of public calls stand on it.
use Rattle.std.specs.Prelude.{ℕ, ◌≡◌, List, ⊤, true, Some, Result, Ok, Err}
use Rattle.px_io.specs.Counts.{Rose}
use Rattle.px_io.specs.Reports.{FinishesWith, SinkState, TakesFront, TakesNone}
use Rattle.px_commands.specs.declared.refusal.Refusal.TheVariants as r
use Rattle.px_commands.specs.declared.stop.Stop.{Stop}
use Rattle.px_commands.specs.declared.stop.Stop.TheVariants as s
use Rattle.px_commands.specs.declared.status.Status.{Status}
use Rattle.px_commands.specs.declared.status.Status.TheVariants as status
use Rattle.px_commands.specs.Outcomes.{Outcome, done, has_output, output, refusal, usage}

-- the status of a stop
abbrev pub status_of : Stop → Status
status_of s.Usage = status.Usage
status_of (s.Refused (r.Malformed line cause)) = status.Malformed
status_of (s.Refused (r.Limit line kind found)) = status.Limit
status_of s.ReadFault = status.ReadFault
status_of s.WriteFault = status.WriteFault
status_of (s.Memory m) = status.Memory m

-- the status of a result
abbrev pub status_in : Result (Unit {0}) Stop → Status
status_in (Ok u) = status.Done
status_in (Err stop) = status_of stop

-- the result is the outcome's, where it is neither a read fault's nor that memory ran out
abbrev pub Meets : Result (Unit {0}) Stop → Outcome → Type 0
Meets (Ok u) o = o ≡ done (output o)
Meets (Err s.Usage) o = o ≡ usage
Meets (Err (s.Refused reason)) o = refusal o ≡ Some reason
Meets (Err s.ReadFault) o = ⊤
Meets (Err s.WriteFault) o = has_output o ≡ true
Meets (Err (s.Memory _)) o = ⊤

-- the output was written and finished, or a front of it that is not finished where a write failed, or nothing
abbrev pub Wrote : Result (Unit {0}) Stop → List ℕ → (before after : SinkState) → Type 0
Wrote (Ok u) bytes before after = FinishesWith before after bytes
Wrote (Err s.WriteFault) bytes before after = TakesFront before after bytes
Wrote (Err stop) bytes before after = TakesNone before after

-- a fault comes only where the count of its end rose, and every other result leaves the counts
pub record HasCauses (result : Result (Unit {0}) Stop) (input_old input_new out_old out_new : ℕ) : Type 0 where
  pub read : result ≡ Err s.ReadFault → Rose input_old input_new
  pub write : result ≡ Err s.WriteFault → Rose out_old out_new
  pub input : (result ≡ Err s.ReadFault → ⊥) → input_new ≡ input_old
  pub out : (result ≡ Err s.WriteFault → ⊥) → out_new ≡ out_old

-- What a stop says of an outcome and of the ends.
use Rattle.px_num.proofs.Basics.{arith, ℕ, List, Result, Ok, Err, inl, refl}
use Rattle.px_io.specs.Reports.{SinkState, TakesNone}
use Rattle.px_io.specs.declared.reading.ReadError.{ReadError}
use Rattle.px_io.proofs.ToldLaws.{stays}
use Rattle.px_array.specs.Arrays.{Device}
use Rattle.px_array.specs.Slots.{ArrayView}
use Rattle.px_commands.specs.declared.refusal.Refusal.{Refusal}
use Rattle.px_commands.specs.declared.stop.Stop.{Stop}
use Rattle.px_commands.specs.declared.stop.SceneStop.{SceneStop}
use Rattle.px_commands.specs.Arrays.{LeavesMade}
use Rattle.px_commands.specs.Outcomes.{Outcome, refused}
use Rattle.px_commands.specs.Results.{Meets, Wrote, status_in, status_of}
use Rattle.px_commands.specs.Stops.{DoesWork, StopsAt, read_stop, stopped}
use Rattle.px_io.specs.declared.reading.ReadError.TheVariants as read
use Rattle.px_commands.specs.declared.refusal.Refusal.TheVariants as r
use Rattle.px_commands.specs.declared.stop.Stop.TheVariants as s
use Rattle.px_commands.specs.declared.stop.SceneStop.TheVariants as halted

-- an input that was not read is one for all outcomes
pub read_meets : (fault : ReadError) (o : Outcome) → Meets (Err (read_stop fault)) o
read_meets read.Failed o = tt
read_meets (read.Memory _) o = tt

pub read_writes : (fault : ReadError) (bytes : List ℕ) (a b : SinkState) → TakesNone a b
    → Wrote (Err (read_stop fault)) bytes a b
read_writes read.Failed bytes a b none = none
read_writes (read.Memory _) bytes a b none = none

-- and an array that is as before is what it leaves, whatever was to be made
pub read_leaves : (fault : ReadError) (IsMade : Device → Type 0) (array : ArrayView)
    → LeavesMade IsMade (status_of (read_stop fault)) array array
read_leaves read.Failed IsMade array = refl
read_leaves (read.Memory _) IsMade array = inl refl

-- a scene that is not served is the work of its limits
pub stop_serves : (stop : SceneStop) (limits : Outcome → Outcome) (o : Outcome) (a : SinkState) → StopsAt limits stop
    → DoesWork (Err (stopped stop)) (limits o) a a
stop_serves (halted.Refused reason) limits o a stops = grind (arith, stays)
stop_serves (halted.Memory _) limits o a stops = grind (arith, stays)

pub stop_leaves : (stop : SceneStop) (IsMade : Device → Type 0) (array : ArrayView)
    → LeavesMade IsMade (status_of (stopped stop)) array array
stop_leaves (halted.Refused (r.Malformed line cause)) IsMade array = refl
stop_leaves (halted.Refused (r.Limit line kind found)) IsMade array = refl
stop_leaves (halted.Memory _) IsMade array = inl refl

-- where a refusal must come, the array is left as it would be by anything else
pub refused_leaves : (result : Result (Unit {0}) Stop) (reason : Refusal) (IsMade Other : Device → Type 0)
    (before now : ArrayView) → Meets result (refused reason) → LeavesMade IsMade (status_in result) before now
    → LeavesMade Other (status_in result) before now
refused_leaves (Ok u) reason IsMade Other before now meets is = cc
refused_leaves (Err s.WriteFault) reason IsMade Other before now meets is = cc
refused_leaves (Err s.Usage) reason IsMade Other before now meets is = is
refused_leaves (Err (s.Refused (r.Malformed line cause))) reason IsMade Other before now meets is = is
refused_leaves (Err (s.Refused (r.Limit line kind found))) reason IsMade Other before now meets is = is
refused_leaves (Err s.ReadFault) reason IsMade Other before now meets is = is
refused_leaves (Err (s.Memory _)) reason IsMade Other before now meets is = is

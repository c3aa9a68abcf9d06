-- What a run answers, writes and leaves. Clauses of public calls stand on it.
use Rattle.std.specs.Prelude.{ℕ, ◌≡◌, ◌≢◌, List, Option, Some, None, Result, Err}
use Rattle.px_io.specs.Reports.{ConsumesAtMost}
use Rattle.px_commands.specs.declared.command.Command.{Command}
use Rattle.px_commands.specs.declared.command.Command.TheVariants as c
use Rattle.px_commands.specs.Commands.{command_of}
use Rattle.px_commands.specs.declared.refusal.TheConstants.{READ_LIMIT}
use Rattle.px_commands.specs.declared.stop.Stop.{Stop}
use Rattle.px_commands.specs.declared.stop.Stop.TheVariants as s
use Rattle.px_commands.specs.declared.status.Status.{Status}
use Rattle.px_commands.specs.Arrays.{Draws}
use Rattle.px_commands.specs.Ends.{AllEnds, Ends, Input, IsUntouched}
use Rattle.px_commands.specs.Inputs.{PerformsOver, TookText, WritesAndLeaves}
use Rattle.px_commands.specs.Notes.{IsNoted}
use Rattle.px_commands.specs.Outcomes.{Outcome, usage}
use Rattle.px_commands.specs.Results.{HasCauses, status_in}
use Rattle.px_draw.specs.Works.{LeavesWork, worked_out}
use Rattle.px_draw.specs.Debugs.{LeavesSession, debugged}
use Rattle.px_shadow.specs.Shadows.{LeavesShadows, shadowed}
use Rattle.px_sample.specs.Samples.{sample_scene, sampled}
use Rattle.px_draw.specs.Listings.{LeavesPlayed, played_out}

-- what a command answers, where these are the bytes of its input
abbrev pub commanded : Option Command → (bytes : List ℕ) → (bits : ℕ) → Outcome
commanded None bytes bits = usage
commanded (Some (c.Make work)) bytes bits = worked_out work bytes bits
commanded (Some c.Debug) bytes bits = debugged bytes bits
commanded (Some c.Shadow) bytes bits = shadowed bytes bits
commanded (Some (c.Sample n)) bytes bits = sampled n bits
commanded (Some c.Play) bytes bits = played_out bytes bits

-- what these words answer
abbrev pub outcome : (words : List (List ℕ)) → (bytes : List ℕ) → (bits : ℕ) → Outcome
outcome words bytes bits = commanded (command_of words) bytes bits

-- what remains of the array by a sample, which no read fault can end
abbrev pub LeavesSample : (n : ℕ) → Result (Unit {0}) Stop → (bits : ℕ) → (before after : Ends) → Type 0
LeavesSample n result bits before after =
    WritesAndLeaves result (sampled n bits)
    (λ old new. (result ≢ Err s.ReadFault) × Draws (status_in result) bits (sample_scene n) old new) before after

-- what is written, and what remains of the array, by each command
abbrev pub Leaves : Option Command → Result (Unit {0}) Stop → (bits : ℕ) → Input → (before after : Ends) → Type 0
Leaves None result bits input before after = IsUntouched before after
Leaves (Some (c.Make work)) result bits input before after = LeavesWork work result bits input.bytes before after
Leaves (Some c.Debug) result bits input before after = LeavesSession result bits input before after
Leaves (Some c.Shadow) result bits input before after = LeavesShadows result bits input.bytes before after
Leaves (Some (c.Sample n)) result bits input before after = LeavesSample n result bits before after
Leaves (Some c.Play) result bits input before after = LeavesPlayed result bits input.bytes before after

-- what a command does over an input
abbrev pub Performs : Result (Unit {0}) Stop → Option Command → (bits : ℕ) → (before after : Ends) → Type 0
Performs result command bits before after =
    PerformsOver result (λ bytes. commanded command bytes bits)
    (λ input. Leaves command result bits input before after) before after

-- a run of these words, on an array with pixels of so many bits, comes to a result of this status
pub record IsRunOf (words : List (List ℕ)) (bits : ℕ) (found : Status) (before after : AllEnds) : Type 0 where
  pub result : Result (Unit {0}) Stop
  pub status : found ≡ status_in result
  pub performs : Performs result (command_of words) bits before.ends after.ends
  pub causes : HasCauses result before.ends.faults after.ends.faults before.ends.out.faults after.ends.out.faults
  pub noted : IsNoted result before.notes after.notes

-- the bytes that were taken, by the command
abbrev pub Took : Option Command → Status → Option (List ℕ) → Option (List ℕ) → Type 0
Took None found old new = new ≡ old
Took (Some (c.Make work)) found old new = TookText found old new
Took (Some c.Debug) found old new = ConsumesAtMost old new READ_LIMIT
Took (Some c.Shadow) found old new = TookText found old new
Took (Some (c.Sample n)) found old new = new ≡ old
Took (Some c.Play) found old new = TookText found old new

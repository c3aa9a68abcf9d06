-- What a command does is what a run of its words does.
use Rattle.px_num.proofs.Basics.{arith}
use Rattle.px_num.proofs.Basics.{ℕ, ◌≡◌, List, [], Option, Some, None, Ok, Err, refl, subst, Result, sym}
use Rattle.px_io.proofs.ToldLaws.{consumes_none, stays}
use Rattle.px_io.specs.Reports.{SinkState}
use Rattle.px_commands.specs.declared.command.Command.{Command}
use Rattle.px_commands.specs.declared.stop.Stop.{Stop}
use Rattle.px_commands.specs.Commands.{command_of}
use Rattle.px_commands.specs.Ends.{Ends, with_notes}
use Rattle.px_commands.specs.Results.{HasCauses, status_in}
use Rattle.px_draw.specs.Runs.{IsRunOf, Leaves, Performs, commanded}
use Rattle.px_commands.proofs.RunLaws.{performs_over, still}
use Rattle.px_commands.specs.Arrays.{Draws}
use Rattle.px_sample.specs.Samples.{sample_scene, sampled}
use Rattle.px_commands.specs.Stops.{DoesWork}
use Rattle.px_commands.specs.declared.stop.Stop.TheVariants as s
use Rattle.px_commands.specs.declared.status.Status.TheVariants as status
use Rattle.px_commands.specs.declared.command.Command.TheVariants as c

-- a run that did its work writes no note
pub run_done : (words : List (List ℕ)) (bits : ℕ) (u : Unit {0}) (before after : Ends) (notes : SinkState)
    → Performs (Ok u) (command_of words) bits before after
    → HasCauses (Ok u) before.faults after.faults before.out.faults after.out.faults
    → IsRunOf words bits status.Done (with_notes before notes) (with_notes after notes)
run_done words bits u before after notes performs causes = grind (arith, stays)

-- words that name no command
pub performs_usage : (command : Option Command) (bits : ℕ) (ends : Ends) → command ≡ None
    → Performs (Err s.Usage) command bits ends ends
performs_usage (Some command) bits ends none = cc
performs_usage None bits ends none =
    performs_over (Err s.Usage) (λ bytes. commanded None bytes bits)
    (λ input. Leaves None (Err s.Usage) bits input ends ends) ends ends [] (consumes_none ends.rest) refl
    (still ends ends refl refl)

-- what is done for the outcome of the sample is what the command does
pub performs_sample : (result : Result (Unit {0}) Stop) (command : Option Command) (n bits : ℕ) (before after : Ends)
    → command ≡ Some (c.Sample n) → after.rest ≡ before.rest → DoesWork result (sampled n bits) before.out after.out
    → Draws (status_in result) bits (sample_scene n) before.array after.array
    → Performs result command bits before after
performs_sample result command n bits before after is same serves array =
    subst (λ x. Performs result x bits before after) (sym is)
    (performs_over result (λ bytes. commanded (Some (c.Sample n)) bytes bits)
    (λ input. Leaves (Some (c.Sample n)) result bits input before after) before after []
    (rw same (consumes_none before.rest)) serves.meets
    (record { wrote = serves.writes; array = (serves.reads, array) }))

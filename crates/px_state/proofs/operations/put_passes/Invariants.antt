use Rattle.px_state.proofs.Cited.{IsPassed, length, operations_before, passes_listing, StandsAtStep, start_in_listing}
use Rattle.px_state.proofs.Cited.{steps, ◌-◌, ◌≡◌}
use Rattle.px_state.specs.Putting.{IsPutTo}
use Rattle.px_state.proofs.operations.put_passes.Given as goal

abbrev pub decreases-loop-step : goal.decreases-loop-step
decreases-loop-step l = length (steps l.scene) - l.cursor.given

abbrev pub invariant-loop-step : goal.invariant-loop-step
invariant-loop-step l = record {
  stands : StandsAtStep l.scene l.cursor;
  operation : l.begin.0 ≡ operations_before l.scene l.cursor.given;
  clock : l.begin.1 ≡ start_in_listing (passes_listing l.scene) l.begin.0;
  put : IsPutTo (IsPassed l.scene) l.first l.begin.0 l.list;
  same : length l.list ≡ length l.fn.list;
}

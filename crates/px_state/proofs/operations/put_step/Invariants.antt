use Rattle.px_state.proofs.Cited.{IsPassed, length, passes_listing, start_in_listing, ◌+◌, ◌≡◌}
use Rattle.px_state.specs.Putting.{IsPutTo}
use Rattle.px_state.proofs.operations.put_step.Given as goal

abbrev pub invariant-loop-at : goal.invariant-loop-at
invariant-loop-at l = record {
  clock : l.clock ≡ start_in_listing (passes_listing l.scene) (l.begun.operation + l.at);
  put : IsPutTo (IsPassed l.scene) l.first (l.begun.operation + l.at) l.list;
  same : length l.list ≡ length l.fn.list;
}

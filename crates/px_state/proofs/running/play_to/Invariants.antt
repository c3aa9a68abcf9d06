use Rattle.px_state.proofs.Cited.{device_after, HasWorked, start_in_listing, ◌*◌, ◌≡◌, ◌≤◌}
use Rattle.px_state.proofs.running.play_to.Given as goal

abbrev pub invariant-loop-operation : goal.invariant-loop-operation
invariant-loop-operation g l = record {
  start : l.start ≡ start_in_listing l.listing l.operation;
  few : l.start ≤ 82 * l.operation;
  low : l.start ≤ l.clock;
  at : (g.A.Array.view l.array).device ≡ device_after g.A.Array.BITS l.listing l.start;
  worked : HasWorked l.start (g.A.Array.view l.fn.array) (g.A.Array.view l.array);
}

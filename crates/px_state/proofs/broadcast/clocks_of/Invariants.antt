use Rattle.px_state.proofs.Cited.{start_in_listing, ◌*◌, ◌≡◌, ◌≤◌}
use Rattle.px_state.proofs.broadcast.clocks_of.Given as goal

abbrev pub invariant-loop-m : goal.invariant-loop-m
invariant-loop-m l = record {
  clocks : l.clocks ≡ start_in_listing l.listing l.m-index;
  few : l.clocks ≤ 82 * l.m-index;
}

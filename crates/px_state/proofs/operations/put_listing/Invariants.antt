use Rattle.px_state.proofs.Cited.{IsOfListing, length, start_in_listing, ◌*◌, ◌≡◌, ◌≤◌}
use Rattle.px_state.specs.Putting.{IsPutTo}
use Rattle.px_state.proofs.operations.put_listing.Given as goal

abbrev pub invariant-loop-k : goal.invariant-loop-k
invariant-loop-k l = record {
  clock : l.clock ≡ start_in_listing l.listing l.k;
  few : l.clock ≤ 82 * l.k;
  put : IsPutTo (IsOfListing l.listing) l.first l.k l.list;
  same : length l.list ≡ length l.fn.list;
}

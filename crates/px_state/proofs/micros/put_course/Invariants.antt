use Rattle.px_state.proofs.Cited.{given_by, length, listing_in, StandsIn, start_in_listing, ◌-◌, ◌≡◌}
use Rattle.px_state.proofs.PutLemmas.{IsPutTo}
use Rattle.px_state.proofs.micros.put_course.Given as goal

abbrev pub decreases-loop-m : goal.decreases-loop-m
decreases-loop-m l = length (listing_in l.course).macros - given_by l.course l.mark

abbrev pub invariant-loop-m : goal.invariant-loop-m
invariant-loop-m l = record {
  stands : StandsIn l.course l.mark;
  start : l.start ≡ start_in_listing (listing_in l.course) (given_by l.course l.mark);
  put : IsPutTo (listing_in l.course) l.first l.start l.micros;
  same : length l.micros ≡ length l.fn.micros;
}

use Rattle.px_state.proofs.Cited.{cycles, get_or, length, rules, slice_get, slice_get-get_or, told}
use Rattle.px_state.proofs.CourseLemmas.{begins}
use Rattle.px_state.proofs.OperationLemmas.{put_next}
use Rattle.px_state.proofs.operations.put_listing.Goals as goal

pub loop-k-preserved : goal.loop-k-preserved
loop-k-preserved c = search (rules, length, slice_get, slice_get-get_or, get_or, cycles, told, begins, put_next)

use Rattle.px_model.specs.Cells.{depths}
use Rattle.px_prune.proofs.ReachLemmas.{shut}
use Rattle.px_prune.proofs.bounds.is_shut.Goals as goal

pub returns : goal.returns
returns c none =
    shut c.args.solid.now (depths c.args.far c.args.fraction_bits) c.args.block.now c.furthest_front-front.result
    c.nearest_back-back.result (rw c.fronts.ensures.value at c.furthest_front-front.ensures.before)
    (rw (c.end_value.ensures.value, c.backs.ensures.value) at c.nearest_back-back.ensures.behind)
    (λ x y there. c.leaves_none.ensures x y none there)

use Rattle.px_num.proofs.Basics.{arith, ints}
use Rattle.px_model.specs.Cells.{depths}
use Rattle.px_prune.proofs.Words.{cells_grow}
use Rattle.px_prune.specs.Blocks.{IsShutAt}
use Rattle.px_prune.proofs.bounds.leaves_none.Goals as goal

pub returns-then-greatest-le0 : goal.returns-then-greatest-le0
unfolding IsShutAt
returns-then-greatest-le0 c x y none there far = cells_grow (depths far c.args.fraction_bits) _ _
    (omega (arith, ints, c.greatest.ensures.bound x y there, c.minus.ensures.value x y, c.if-greatest-le0.true))

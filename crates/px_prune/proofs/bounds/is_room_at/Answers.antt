use Rattle.px_num.proofs.Basics.{arith}
use Rattle.px_prune.specs.Blocks.{IsShutAt}
use Rattle.px_prune.proofs.bounds.is_room_at.Goals as goal

pub returns : goal.returns
unfolding IsShutAt
returns c none far = let first = c.cell_at.ensures far in let end = c.cell_at-2.ensures far in grind arith

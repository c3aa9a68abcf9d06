use Rattle.px_num.proofs.Basics.{arith}
use Rattle.px_model.specs.Cells.{depths}
use Rattle.px_prune.proofs.ReachLemmas.{no_depth, no_side, some_reach}
use Rattle.px_prune.proofs.bounds.reach.Goals as goal

pub returns-then-not-sides_reach : goal.returns-then-not-sides_reach
returns-then-not-sides_reach c =
    no_side c.args.solid.now (depths c.args.far c.args.fraction_bits) c.args.block.now (grind arith)

pub returns-then-first-end : goal.returns-then-first-end
returns-then-first-end c =
    no_depth c.args.solid.now (depths c.args.far c.args.fraction_bits) c.args.block.now c.first_depth-first.result
    c.end_depth-end.result (grind arith) (grind arith) (grind arith)

pub returns : goal.returns
returns c = some_reach c.args.solid.now (depths c.args.far c.args.fraction_bits) c.args.block.now
    c.first_depth-first.result
    c.end_depth-end.result (grind arith) (grind arith) (grind arith) (grind arith)

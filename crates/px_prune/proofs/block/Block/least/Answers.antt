use Rattle.px_num.proofs.Basics.{rules}
use Rattle.px_prune.specs.Blocks.{least_in}
use Rattle.px_prune.proofs.BlockLemmas.{least_bounds}
use Rattle.px_prune.proofs.block.Block.least.Goals as goal

pub returns-clause-value : goal.returns-clause-value
unfolding least_in
returns-clause-value c = search rules

pub returns-clause-bound : goal.returns-clause-bound
returns-clause-bound c x y there = rw (returns-clause-value c) (least_bounds c.args.self.now c.args.form.now x y there)

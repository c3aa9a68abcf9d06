use Rattle.px_num.proofs.Basics.{rules}
use Rattle.px_prune.specs.Blocks.{greatest_in}
use Rattle.px_prune.proofs.BlockLemmas.{greatest_bounds}
use Rattle.px_prune.proofs.block.Block.greatest.Goals as goal

pub returns-clause-value : goal.returns-clause-value
unfolding greatest_in
returns-clause-value c = search rules

pub returns-clause-bound : goal.returns-clause-bound
returns-clause-bound c x y there =
    rw (returns-clause-value c) (greatest_bounds c.args.self.now c.args.form.now x y there)

use Rattle.px_num.proofs.Basics.{arith, ints, to_z-of_z}
use Rattle.px_prune.proofs.Words.{least_in}
use Rattle.px_prune.proofs.DepthLemmas.{cells_behind}
use Rattle.px_prune.proofs.bounds.first_depth.Goals as goal

pub returns : goal.returns
returns c z =
    let behind = cells_behind (λ f. least_in c.args.block.now f.plane) c.args.fronts.now c.greatest_front.result 0
    c.args.fraction_bits c.greatest_front.ensures.value z in
    let is = c.cell_of.ensures 0 in grind (arith, ints, to_z-of_z)

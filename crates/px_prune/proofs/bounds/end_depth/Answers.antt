use Rattle.px_num.proofs.Basics.{arith, ints, to_z-of_z}
use Rattle.px_prune.proofs.Words.{greatest_in}
use Rattle.px_prune.proofs.DepthLemmas.{cells_before, far_cell}
use Rattle.px_prune.proofs.bounds.end_depth.Goals as goal

pub returns-clause-depth : goal.returns-clause-depth
returns-clause-depth c z =
    let before = cells_before (λ f. greatest_in c.args.block.now f.plane) c.args.backs.now c.least_back-least.result
    c.args.far c.args.fraction_bits (rw c.end_value.ensures.value at c.least_back-least.ensures.value) z in
    let is = c.cell_of.ensures c.args.far in grind (arith, ints, to_z-of_z)

pub returns-clause-far : goal.returns-clause-far
returns-clause-far c =
    let is = c.cell_of.ensures c.args.far in
    let high = rw c.end_value.ensures.value at c.least_back-least.ensures.high in
    let low = far_cell c.args.far c.args.fraction_bits _ high in grind (arith, ints, to_z-of_z)

use Rattle.px_num.proofs.Basics.{arith, ints, to_z-of_z}
use Rattle.px_prune.proofs.bounds.cell_at.Goals as goal

pub returns : goal.returns
returns c far = grind (arith, ints, to_z-of_z)

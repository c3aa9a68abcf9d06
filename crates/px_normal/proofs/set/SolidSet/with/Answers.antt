use Rattle.px_num.proofs.Basics.{arith}
use Rattle.px_normal.proofs.BitsLaws.{has-one}
use Rattle.px_normal.proofs.set.SolidSet.with.Goals as goal

pub returns-clause-solids : goal.returns-clause-solids
returns-clause-solids c solid small = grind (arith, has-one)

use Rattle.px_num.proofs.Basics.{arith, length-range_with_len}
use Rattle.px_control.proofs.literal.candidates.Goals as goal

pub returns-then-plain-clause-faces : goal.returns-then-plain-clause-faces
returns-then-plain-clause-faces c = grind (arith, length-range_with_len)

pub returns-else-plain-clause-faces : goal.returns-else-plain-clause-faces
returns-else-plain-clause-faces c = grind (arith, length-range_with_len)

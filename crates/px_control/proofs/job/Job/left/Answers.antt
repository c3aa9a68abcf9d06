use Rattle.px_num.proofs.Basics.{arith}
use Rattle.px_control.proofs.PlaceLemmas.{clock_within}
use Rattle.px_control.proofs.job.Job.left.Goals as goal

pub overflow_sub-result : goal.overflow_sub-result
overflow_sub-result c = grind (arith, clock_within)

pub returns-clause-within : goal.returns-clause-within
returns-clause-within c = grind (arith, clock_within)

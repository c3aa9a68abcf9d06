use Rattle.px_num.proofs.Basics.{arith}
use Rattle.px_control.proofs.PlaceLemmas.{clock_within}
use Rattle.px_control.proofs.job.Job.now.Goals as goal

pub returns-clause-within : goal.returns-clause-within
returns-clause-within c = grind (arith, clock_within)

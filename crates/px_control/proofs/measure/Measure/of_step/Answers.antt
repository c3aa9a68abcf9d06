use Rattle.px_num.proofs.Basics.{nat_tests, common_steps, arith}
use Rattle.std.proofs.Math.Seq.{take-length}
use Rattle.px_control.proofs.CostLemmas.{counted_bare, operation_lawful}
use Rattle.px_control.proofs.measure.Measure.of_step.Goals as goal

pub returns-clause-worth : goal.returns-clause-worth
returns-clause-worth c = grind (arith, nat_tests, common_steps, take-length, counted_bare)

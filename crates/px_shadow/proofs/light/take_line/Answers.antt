use Rattle.px_num.proofs.Basics.{arith, nat_tests, common_steps}
use Rattle.px_shadow.proofs.LineLemmas.{light_known, more_known, on_ok}
use Rattle.px_shadow.proofs.light.take_line.Goals as goal

pub returns-in-Ok-Some-clause-known : goal.returns-in-Ok-Some-clause-known
returns-in-Ok-Some-clause-known c = grind (arith, nat_tests, common_steps, light_known, on_ok, more_known)

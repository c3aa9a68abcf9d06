use Rattle.px_num.proofs.Basics.{arith}
use Rattle.px_machine_tests.proofs.compared.try_pixel.Goals as goal

pub returns : goal.returns
returns g c = grind arith

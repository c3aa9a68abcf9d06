use Rattle.px_num.proofs.Basics.{nat_tests, common_steps, arith}
use Rattle.px_planes.proofs.OperationLemmas.{done_by_work, stored_law}
use Rattle.px_planes.proofs.word_operations.load_const.Goals as goal

pub returns : goal.returns
returns c = grind (arith, nat_tests, common_steps, done_by_work, stored_law)

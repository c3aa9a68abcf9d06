use Rattle.px_num.proofs.Basics.{nat_tests, common_steps, arith}
use Rattle.px_num.proofs.BitLaws.{modulo_bit}
use Rattle.px_planes.proofs.OperationLemmas.{done_by_work, place_in_word, stored_law}
use Rattle.px_planes.proofs.word_operations.load_linear.Goals as goal

pub returns : goal.returns
returns c = grind (arith, nat_tests, common_steps, done_by_work, place_in_word, stored_law, modulo_bit)

use Rattle.px_num.proofs.Basics.{arith, nat_tests, common_steps}
use Rattle.px_planes.proofs.WorkLemmas.{keep_law}
use Rattle.px_planes.proofs.word_acts.keep_word.Goals as goal

pub returns : goal.returns
returns c = grind (arith, nat_tests, common_steps, keep_law)

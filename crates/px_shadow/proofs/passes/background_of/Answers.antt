use Rattle.px_num.proofs.Basics.{arith, nat_tests, common_steps, map-append}
use Rattle.px_shadow.proofs.Words.{range_more}
use Rattle.px_shadow.proofs.passes.background_of.Goals as goal

pub loop-t-preserved : goal.loop-t-preserved
loop-t-preserved c = grind (arith, nat_tests, common_steps, range_more, map-append)

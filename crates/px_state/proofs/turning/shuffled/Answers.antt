use Rattle.px_state.proofs.Cited.{arith, common_steps}
use Rattle.px_state.proofs.TurningLemmas.{shuffled_more}
use Rattle.px_state.proofs.turning.shuffled.Goals as goal

pub loop-w-preserved : goal.loop-w-preserved
loop-w-preserved c = grind (arith, common_steps, shuffled_more)

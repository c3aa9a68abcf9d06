use Rattle.px_state.proofs.Cited.{arith, common_steps, pow_mono}
use Rattle.px_state.proofs.words.node_words.Goals as goal

pub returns-clause-few : goal.returns-clause-few
returns-clause-few c = grind (arith, common_steps, pow_mono)

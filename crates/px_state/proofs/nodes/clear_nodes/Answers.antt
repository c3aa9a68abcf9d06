use Rattle.px_state.proofs.Cited.{arith, common_steps}
use Rattle.px_state.proofs.NodeLemmas.{cleared_nodes}
use Rattle.px_state.proofs.nodes.clear_nodes.Goals as goal

pub returns-clause-nodes : goal.returns-clause-nodes
returns-clause-nodes c = grind (arith, common_steps, cleared_nodes)

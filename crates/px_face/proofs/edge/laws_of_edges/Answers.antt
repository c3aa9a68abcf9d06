use Rattle.px_face.proofs.EdgeLemmas.{edges_range}
use Rattle.px_face.proofs.RangeLemmas.{plane_of_range}
use Rattle.px_face.proofs.edge.laws_of_edges.Goals as goal

pub returns-clause-range : goal.returns-clause-range
returns-clause-range c = λ s lawful end face small there. edges_range s lawful end small face there

pub returns-clause-planes : goal.returns-clause-planes
returns-clause-planes c = λ s lawful end face small there. plane_of_range s lawful end small face there

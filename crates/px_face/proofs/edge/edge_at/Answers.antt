use Rattle.px_num.proofs.Basics.{rules, arith}
use Rattle.px_face.proofs.Words.{lt_false}
use Rattle.px_face.proofs.EdgeLemmas.{edge_range, front_form, back_beyond}
use Rattle.px_face.proofs.edge.edge_at.Goals as goal

pub returns-then-face-fronts-clause-form : goal.returns-then-face-fronts-clause-form
returns-then-face-fronts-clause-form c = grind (arith, front_form)

pub returns-then-face-fronts-clause-range : goal.returns-then-face-fronts-clause-range
returns-then-face-fronts-clause-range c = search (rules, edge_range, returns-then-face-fronts-clause-form)

pub returns-else-face-fronts-clause-form : goal.returns-else-face-fronts-clause-form
returns-else-face-fronts-clause-form c = grind (arith, lt_false, back_beyond)

pub returns-else-face-fronts-clause-range : goal.returns-else-face-fronts-clause-range
returns-else-face-fronts-clause-range c = search (rules, edge_range, returns-else-face-fronts-clause-form)

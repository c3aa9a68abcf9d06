use Rattle.px_face.proofs.cover.covered.Goals as goal

pub returns-clause-once : goal.returns-clause-once
returns-clause-once c = c.laws_of_covering.ensures.covering c.args.solid.now c.args.end c.args.x c.args.y

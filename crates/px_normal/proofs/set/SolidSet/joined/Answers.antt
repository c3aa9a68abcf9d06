use Rattle.px_normal.proofs.BitsLaws.{has-joined}
use Rattle.px_normal.proofs.set.SolidSet.joined.Goals as goal

pub returns-clause-solids : goal.returns-clause-solids
returns-clause-solids c = has-joined c.args.self.now c.args.other.now

use Rattle.px_num.proofs.Basics.{arith}
use Rattle.px_model.proofs.GridLaws.{exponent_is}
use Rattle.px_control.proofs.GridLaws.{covers_the_picture}
use Rattle.px_control.proofs.law.law_of_grids.Goals as goal

pub returns-clause-covers : goal.returns-clause-covers
returns-clause-covers c = covers_the_picture

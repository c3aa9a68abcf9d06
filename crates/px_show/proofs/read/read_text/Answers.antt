use Rattle.px_num.proofs.Basics.{arith, length-map}
use Rattle.px_text.proofs.LineLaws.{worded_is}
use Rattle.px_show.proofs.read.read_text.Goals as goal

pub returns-clause-err : goal.returns-clause-err
returns-clause-err g c = grind (arith, worded_is, length-map)

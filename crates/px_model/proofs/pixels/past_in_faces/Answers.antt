use Rattle.px_num.proofs.Basics.{is_some, arith}
use Rattle.px_model.proofs.FindLemmas.{number_first, number_later}
use Rattle.px_model.proofs.pixels.past_in_faces.Goals as goal

pub returns-then-is_some : goal.returns-then-is_some
returns-then-is_some c = grind (arith, is_some, number_first)

pub loop-number-preserved : goal.loop-number-preserved
loop-number-preserved c = grind (arith, is_some, number_later)

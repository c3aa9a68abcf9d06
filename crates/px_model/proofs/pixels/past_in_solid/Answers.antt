use Rattle.px_num.proofs.Basics.{arith, find-append}
use Rattle.px_model.proofs.pixels.past_in_solid.Goals as goal

pub returns : goal.returns
returns c = grind (arith, find-append)

use Rattle.px_num.proofs.Basics.{arith, mod-le, pow_mono}
use Rattle.px_frame.proofs.finer.parts.Goals as goal

pub returns-clause-few : goal.returns-clause-few
returns-clause-few c = grind (arith, pow_mono, mod-le)

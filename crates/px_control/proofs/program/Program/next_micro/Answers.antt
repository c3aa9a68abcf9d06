use Rattle.px_num.proofs.Basics.{arith}
use Rattle.px_control.proofs.PlaceLemmas.{at_end, next_is}
use Rattle.px_control.proofs.program.Program.next_micro.Goals as goal

pub returns-in-Some : goal.returns-in-Some
returns-in-Some c = grind (arith, next_is)

pub returns-in-None : goal.returns-in-None
returns-in-None c =
    absurd (omega (arith, c.requires.more, at_end c.args.self.now c.args.place.now c.requires.stands c.in-None.is))

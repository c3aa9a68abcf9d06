use Rattle.px_num.proofs.Basics.{arith}
use Rattle.px_control.proofs.PlaceLemmas.{at_end, next_end_is, next_end_within}
use Rattle.px_control.proofs.program.Program.next_end.Goals as goal

pub returns-in-Some-clause-next : goal.returns-in-Some-clause-next
returns-in-Some-clause-next c = grind (arith, next_end_is)

pub returns-in-Some-clause-within : goal.returns-in-Some-clause-within
returns-in-Some-clause-within c =
    next_end_within c.args.self.now c.args.place.now c.in-Some.m _ c.laws.ensures.good.lawful c.requires.stands
    c.in-Some.is
    (omega (arith, c.cycles.ensures.value))

pub returns-in-None-clause-next : goal.returns-in-None-clause-next
returns-in-None-clause-next c =
    absurd (omega (arith, c.requires.more, at_end c.args.self.now c.args.place.now c.requires.stands c.in-None.is))

pub returns-in-None-clause-later : goal.returns-in-None-clause-later
returns-in-None-clause-later c =
    omega (arith, c.requires.more, at_end c.args.self.now c.args.place.now c.requires.stands c.in-None.is)

use Rattle.px_num.proofs.Basics.{arith}
use Rattle.px_control.proofs.PlaceLemmas.{here_of}
use Rattle.px_control.proofs.WholeLemmas.{at_more}
use Rattle.px_control.proofs.program.Program.pass.Goals as goal

pub overflow_add-place : goal.overflow_add-place
overflow_add-place c = grind (arith, here_of)

pub returns-clause-lawful : goal.returns-clause-lawful
returns-clause-lawful c = grind (arith, here_of)

pub returns-clause-leads : goal.returns-clause-leads
returns-clause-leads c bits d at =
    at_more bits c.args.self.now c.args.place.now c.in_ok-m.m _ d c.laws.ensures.good.lawful c.requires.stands
    c.in_ok-m.was c.requires.micro (omega (arith, c.go_on.ensures.clock, c.cycles-cycles.ensures.value)) at

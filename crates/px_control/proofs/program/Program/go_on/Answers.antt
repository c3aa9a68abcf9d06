use Rattle.px_num.proofs.Basics.{arith}
use Rattle.px_control.proofs.PlaceLemmas.{here_of, stands_next}
use Rattle.px_control.proofs.program.Program.go_on.Goals as goal

pub returns-else-to-cycles-clause-stands : goal.returns-else-to-cycles-clause-stands
returns-else-to-cycles-clause-stands c =
    let good = c.laws.ensures.good
    in let next = c.give-place.ensures
    in stands_next c.args.self.now c.args.place.now c.args.m.now c.give-place.new.cursor c.give-place.result _
    good.lawful good.some c.requires.stands c.requires.here (omega (
      arith,
      c.if-to-cycles.false,
      c.requires.cycles,
      c.requires.within,
    ))
    next.operation next.stands next.some next.stays

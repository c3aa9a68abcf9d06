use Rattle.px_num.proofs.Basics.{arith}
use Rattle.px_control.proofs.PlaceLemmas.{at_end, clocks_at, here_of}
use Rattle.px_control.proofs.RunLemmas.{at_run, cycles_are, grid_at}
use Rattle.px_control.proofs.program.Program.run_on.Goals as goal

pub returns-in-Some-clause-at : goal.returns-in-Some-clause-at
returns-in-Some-clause-at g c =
    let lawful = c.laws.ensures.good.lawful
    in let here = here_of c.args.self.now c.args.place.now c.in-Some.m lawful c.requires.stands c.in-Some.is
    in rw c.go_on.ensures.clock
    (at_run g.A.Array.BITS c.args.self.now c.args.place.now c.in-Some.m _ (g.A.Array.view c.args.array.now).device _
    lawful c.requires.stands c.in-Some.is (omega (arith, here.micro, c.cycles-cycles.ensures.value))
    (omega (arith, c.cycles-cycles.ensures.value)) c.requires.at c.make_micros.ensures.device)

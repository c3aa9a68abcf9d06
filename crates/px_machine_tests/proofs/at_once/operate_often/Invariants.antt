use Rattle.px_machine_tests.specs.Ready.{IsReady}
use Rattle.px_machine_tests.proofs.at_once.operate_often.Given as goal

abbrev pub invariant-loop : goal.invariant-loop
invariant-loop g l = record {
  planes : IsReady g.A.Array.BITS (g.A.Array.view l.planes);
  pixels : IsReady g.B.Array.BITS (g.B.Array.view l.pixels);
}

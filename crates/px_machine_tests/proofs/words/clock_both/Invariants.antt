use Rattle.px_num.proofs.Basics.{◌≡◌}
use Rattle.px_machine_tests.specs.Ready.{IsReady}
use Rattle.px_machine_tests.proofs.words.clock_both.Given as goal

abbrev pub invariant-loop : goal.invariant-loop
invariant-loop g l = record {
  planes : IsReady g.A.Array.BITS (g.A.Array.view l.planes);
  pixels : IsReady g.B.Array.BITS (g.B.Array.view l.pixels);
  plane_slots : (g.A.Array.view l.planes).slots ≡ (g.A.Array.view l.fn.planes).slots;
  pixel_slots : (g.B.Array.view l.pixels).slots ≡ (g.B.Array.view l.fn.pixels).slots;
}

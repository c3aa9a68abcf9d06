use Rattle.px_num.proofs.Basics.{◌≡◌}
use Rattle.px_array.specs.Arrays.{IsOpen}
use Rattle.px_machine_tests.proofs.clocks.go_on.Given as goal

abbrev pub invariant-loop-k : goal.invariant-loop-k
invariant-loop-k g l = record {
  is_open : IsOpen (g.A.Array.view l.array).device;
  plain : IsOpen (g.A.Array.view l.plain).device;
  slots : (g.A.Array.view l.array).slots ≡ (g.A.Array.view l.fn.array).slots;
}

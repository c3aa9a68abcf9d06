use Rattle.px_num.proofs.Basics.{◌≡◌, ◌+◌}
use Rattle.px_machine_tests.proofs.operations.carry_out.Given as goal

abbrev pub invariant-loop-i : goal.invariant-loop-i
invariant-loop-i g l = record {
  columns : (g.A.Array.view l.array).device.state.tree.nx ≡ 1;
  rows : (g.A.Array.view l.array).device.state.tree.ny ≡ 1;
  clocks : (g.A.Array.view l.array).device.clocks ≡ (g.A.Array.view l.initial.array).device.clocks + l.i;
}

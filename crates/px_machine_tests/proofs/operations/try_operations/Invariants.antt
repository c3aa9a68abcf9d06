use Rattle.px_num.proofs.Basics.{◌≡◌}
use Rattle.px_machine_tests.proofs.operations.try_operations.Given as goal

abbrev pub invariant-loop-m : goal.invariant-loop-m
invariant-loop-m g l = record {
  columns : (g.A.Array.view l.array).device.state.tree.nx ≡ 1;
  rows : (g.A.Array.view l.array).device.state.tree.ny ≡ 1;
}

use Rattle.px_array.specs.Arrays.{IsOpen}
use Rattle.px_machine_tests.proofs.clocks.make_all.Given as goal

abbrev pub invariant-loop-tree : goal.invariant-loop-tree
invariant-loop-tree g l = IsOpen (g.A.Array.view l.array).device

use Rattle.px_num.proofs.Basics.{◌≡◌, ◌+◌, ◌*◌, ◌≤◌, ◌++◌, drop}
use Rattle.px_asm.proofs.Words.{all_made, HasGrid, HasRun}
use Rattle.px_asm.proofs.operations.make_before.Given as goal

abbrev pub invariant-loop-i : goal.invariant-loop-i
invariant-loop-i g l =
    let before = (g.A.Array.view l.fn.array).device in
    let now = (g.A.Array.view l.array).device in
    record {
      device : all_made (drop l.i (l.operations ++ l.behind)) now ≡ all_made (l.operations ++ l.behind) before;
      pixels : HasGrid g.A.Array.BITS before.state.tree.nx before.state.tree.ny now.state;
      few : now.clocks ≤ before.clocks + 82 * l.i;
      run : HasRun (g.A.Array.view l.fn.array) (g.A.Array.view l.array);
    }

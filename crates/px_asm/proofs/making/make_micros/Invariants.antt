use Rattle.px_num.proofs.Basics.{◌≡◌, ◌+◌, ◌-◌, between}
use Rattle.px_asm.proofs.Words.{all_clocked, HasWorked, micros_on}
use Rattle.px_asm.proofs.making.make_micros.Given as goal

abbrev pub invariant-loop-i : goal.invariant-loop-i
invariant-loop-i g l =
    let before = (g.A.Array.view l.fn.array).device in
    let device = (g.A.Array.view l.array).device in
    let ms = micros_on before l.m in
    record {
      columns : device.state.tree.nx ≡ l.nx;
      clocked : all_clocked (between l.i l.to ms) device ≡ all_clocked (between l.from l.to ms) before;
      worked : HasWorked (l.i - l.from) (g.A.Array.view l.fn.array) (g.A.Array.view l.array);
      clocks : device.clocks ≡ before.clocks + (l.i - l.from);
    }

use Rattle.px_num.proofs.Basics.{◌≡◌, ◌+◌, drop}
use Rattle.px_array.specs.Arrays.{IsOpen}
use Rattle.px_array.specs.Clocks.{all_clocked}
use Rattle.px_array.specs.Slots.{HasWorked}
use Rattle.px_array.proofs.clocking.clock_all.Given as goal

abbrev pub invariant-loop-m : goal.invariant-loop-m
invariant-loop-m g l = record {
  is_open : IsOpen (g.A.Array.view l.array).device;
  clocked : all_clocked (drop l.m-index l.micros) (g.A.Array.view l.array).device ≡ all_clocked l.micros
      (g.A.Array.view l.fn.array).device;
  worked : HasWorked l.m-index (g.A.Array.view l.fn.array) (g.A.Array.view l.array);
  clocks : (g.A.Array.view l.array).device.clocks ≡ (g.A.Array.view l.fn.array).device.clocks + l.m-index;
}

use Rattle.px_num.proofs.Basics.{◌≡◌, ◌+◌, ◌-◌, ◌≤◌, length}
use Rattle.px_control.proofs.Words.{array_vec_len, HasRun, Holds, passes, StandsFor}
use Rattle.px_control.proofs.program.Program.march.Given as goal

abbrev pub decreases-loop-held : goal.decreases-loop-held
decreases-loop-held g l = length (passes l.self) - l.place.operation + array_vec_len l.held

abbrev pub invariant-loop-held : goal.invariant-loop-held
invariant-loop-held g l = record {
  stands : StandsFor l.self l.place;
  micro : l.place.micro ≡ 0;
  within : l.place.clock ≤ l.end;
  holds : Holds g.A.Array.BITS l.self l.place.clock l.held.items (g.A.Array.view l.array).device;
  run : HasRun (g.A.Array.view l.fn.array) (g.A.Array.view l.array);
}

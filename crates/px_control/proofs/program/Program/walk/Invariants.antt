use Rattle.px_num.proofs.Basics.{◌-◌, ◌≤◌}
use Rattle.px_control.proofs.Words.{HasWorked, IsAt, StandsFor}
use Rattle.px_control.proofs.program.Program.walk.Given as goal

abbrev pub decreases-loop-place : goal.decreases-loop-place
decreases-loop-place g l = l.end - l.place.clock

abbrev pub invariant-loop-place : goal.invariant-loop-place
invariant-loop-place g l = record {
  stands : StandsFor l.self l.place;
  later : l.from.clock ≤ l.place.clock;
  within : l.place.clock ≤ l.end;
  at : IsAt g.A.Array.BITS l.self l.place.clock (g.A.Array.view l.array).device;
  worked : HasWorked (l.place.clock - l.from.clock) (g.A.Array.view l.fn.array) (g.A.Array.view l.array);
}

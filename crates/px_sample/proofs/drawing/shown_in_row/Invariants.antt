use Rattle.px_num.proofs.Basics.{◌≡◌, ◌*◌}
use Rattle.px_sample.specs.Countings.{IsShownAtMost, shown_in_row}
use Rattle.px_sample.proofs.drawing.shown_in_row.Given as goal

abbrev pub invariant-loop-x : goal.invariant-loop-x
invariant-loop-x g l = record {
  shown : l.shown ≡ shown_in_row l.scene l.x l.y;
  most : IsShownAtMost (16777216 * l.x) l.shown;
}

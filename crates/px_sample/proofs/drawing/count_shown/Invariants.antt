use Rattle.px_num.proofs.Basics.{◌≡◌, ◌*◌}
use Rattle.px_sample.specs.Countings.{IsShownAtMost, shown_within}
use Rattle.px_sample.proofs.drawing.count_shown.Given as goal

abbrev pub invariant-loop-y : goal.invariant-loop-y
invariant-loop-y g l = record {
  shown : l.shown ≡ shown_within l.scene l.scene.width l.y;
  most : IsShownAtMost (8589934592 * l.y) l.shown;
}

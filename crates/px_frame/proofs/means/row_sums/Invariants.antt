use Rattle.px_num.proofs.Basics.{◌≡◌, ◌*◌}
use Rattle.px_frame.specs.MeanSums.{AreSumsAtMost, row_sums, strip_colour}
use Rattle.px_frame.proofs.means.row_sums.Given as goal

abbrev pub invariant-loop-i : goal.invariant-loop-i
invariant-loop-i l = record {
  sums : l.sums ≡ row_sums (strip_colour l.fine l.strip) l.from l.y l.i;
  most : AreSumsAtMost (255 * l.i) l.sums;
}

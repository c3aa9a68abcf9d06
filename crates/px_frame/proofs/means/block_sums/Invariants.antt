use Rattle.px_num.proofs.Basics.{◌≡◌, ◌*◌}
use Rattle.px_frame.specs.MeanSums.{AreSumsAtMost, block_sums, strip_colour}
use Rattle.px_frame.proofs.means.block_sums.Given as goal

abbrev pub invariant-loop-j : goal.invariant-loop-j
invariant-loop-j l = record {
  sums : l.sums ≡ block_sums (strip_colour l.fine l.strip) l.across l.from l.top l.j;
  most : AreSumsAtMost (255 * (l.across * l.j)) l.sums;
}

use Rattle.px_num.proofs.Basics.{◌≡◌, ◌≤ℤ◌, ◌<ℤ◌, ◌^◌, pos, map, take, fold, int_max}
use Rattle.px_prune.specs.Blocks.{least_in}
use Rattle.px_prune.proofs.bounds.greatest_front.Given as goal

abbrev pub invariant-loop-face : goal.invariant-loop-face
invariant-loop-face l = record {
  value : l.greatest ≡ fold int_max (pos 0) (map (λ f. least_in l.fn.block f.plane) (take l.face-index l.fronts));
  low : pos 0 ≤ℤ l.greatest;
  high : l.greatest <ℤ pos (2 ^ 39);
}

use Rattle.px_num.proofs.Basics.{◌≡◌, ◌≤ℤ◌, pos, map, take, fold, int_min}
use Rattle.px_prune.specs.Blocks.{greatest_in}
use Rattle.px_prune.proofs.bounds.least_back.Given as goal

abbrev pub invariant-loop-face : goal.invariant-loop-face
invariant-loop-face l = record {
  value : l.least ≡ fold int_min (pos l.fn.end) (map (λ f. greatest_in l.fn.block f.plane) (take l.face-index l.backs));
  high : l.least ≤ℤ pos l.fn.end;
}

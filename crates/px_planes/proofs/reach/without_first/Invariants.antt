use Rattle.px_num.proofs.Basics.{◌-◌}
use Rattle.px_planes.specs.Operations.{IsReach}
use Rattle.px_planes.proofs.reach.without_first.Given as goal

abbrev pub invariant-loop-from : goal.invariant-loop-from
invariant-loop-from l = IsReach (record { from = l.from; to = l.reach.to }) l.planes

abbrev pub decreases-loop-from : goal.decreases-loop-from
decreases-loop-from l = l.reach.to - l.from

use Rattle.px_num.proofs.Basics.{◌-◌}
use Rattle.px_planes.specs.Operations.{IsReach}
use Rattle.px_planes.proofs.reach.without_last.Given as goal

abbrev pub invariant-loop-to : goal.invariant-loop-to
invariant-loop-to l = IsReach (record { from = l.reach.from; to = l.to }) l.planes

abbrev pub decreases-loop-to : goal.decreases-loop-to
decreases-loop-to l = l.to - l.reach.from

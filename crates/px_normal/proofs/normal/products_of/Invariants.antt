use Rattle.px_num.proofs.Basics.{length, reverse}
use Rattle.px_normal.specs.Live.{boxes_in}
use Rattle.px_normal.proofs.BuildingLemmas.{IsOnTheWay}
use Rattle.px_normal.proofs.normal.products_of.Given as goal

abbrev pub invariant-loop-step : goal.invariant-loop-step
invariant-loop-step l = IsOnTheWay (boxes_in l.fn.boxes) l.fn.expr (reverse l.stack.items) l.rest

abbrev pub decreases-loop-step : goal.decreases-loop-step
decreases-loop-step l = length l.rest

use Rattle.px_num.proofs.Basics.{◌≡◌, [], fold, take}
use Rattle.px_show.specs.Stacks.{trees_built}
use Rattle.px_show.proofs.show.build.Given as goal

abbrev pub invariant-loop-step : goal.invariant-loop-step
invariant-loop-step l = l.builder ≡ fold trees_built [] (take l.step-index l.steps)

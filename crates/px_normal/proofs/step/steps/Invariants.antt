use Rattle.px_num.proofs.Basics.{◌≡◌, length, reverse}
use Rattle.px_normal.proofs.Words.{of_root, steps_of, walked}
use Rattle.px_normal.proofs.step.steps.Given as goal

abbrev pub invariant-loop-node : goal.invariant-loop-node
invariant-loop-node l =
    walked (reverse l.rest) (reverse l.wanted.items) (reverse l.steps.items) ≡ steps_of of_root l.fn.expr

abbrev pub decreases-loop-node : goal.decreases-loop-node
decreases-loop-node l = length l.rest

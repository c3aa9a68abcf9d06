use Rattle.px_num.proofs.Basics.{ℕ, ◌≡◌, ◌≤◌, ◌<◌, true}
use Rattle.px_prune.proofs.Words.{has_pixel}
use Rattle.px_prune.specs.Blocks.{IsShutAt}
use Rattle.px_prune.proofs.bounds.is_room.Given as goal

abbrev pub invariant-loop-y : goal.invariant-loop-y
invariant-loop-y l = (x y : ℕ) → has_pixel l.fn.block x y ≡ true → y < l.y
    → IsShutAt l.fn.front l.fn.back l.fn.fraction_bits x y

abbrev pub invariant-loop-x : goal.invariant-loop-x
invariant-loop-x l = (x : ℕ) → l.fn.block.x0 ≤ x → x < l.x
    → IsShutAt l.fn.front l.fn.back l.fn.fraction_bits x l.y

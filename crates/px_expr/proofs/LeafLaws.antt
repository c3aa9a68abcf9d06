-- An expression over some solids is one over more, and over one at least.
use Rattle.px_num.proofs.Basics.{ℕ, ◌<◌, ◌≤◌, arith}
use Rattle.px_expr.specs.Tree.{HasLeavesBelow, Tree, join, leaf}

pub leaves_below : (count more : ℕ) → count ≤ more → (tree : Tree) → HasLeavesBelow count tree
    → HasLeavesBelow more tree
leaves_below count more le (leaf solid) known = omega arith
leaves_below count more le (join op left right) known =
    (leaves_below count more le left known.0, leaves_below count more le right known.1)

pub some_solid : (tree : Tree) (count : ℕ) → HasLeavesBelow count tree → 0 < count
some_solid (leaf solid) count below = omega (arith, below)
some_solid (join op left right) count below = some_solid left count below.0

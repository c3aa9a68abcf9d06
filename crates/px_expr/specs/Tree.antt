-- Expressions over solids as they are written, and the limits of every expression. Clauses of public calls stand on it.
use Rattle.std.specs.Prelude.{ℕ, ◌+◌, ◌<◌, ◌≤◌, max}
use Rattle.px_expr.specs.declared.node.Op.{Op}
use Rattle.px_expr.specs.declared.node.TheConstants.{MAX_LEAVES, MAX_NESTING}

-- an expression: a solid by its index, or an operator between two expressions
pub data Tree : Type 0 where
  leaf : ℕ → Tree
  join : Op → Tree → Tree → Tree

abbrev pub leaf_count : Tree → ℕ
leaf_count (leaf solid) = 1
leaf_count (join op left right) = leaf_count left + leaf_count right

-- how many operators are above the deepest leaf
abbrev pub nesting : Tree → ℕ
nesting (leaf solid) = 0
nesting (join op left right) = max (nesting left) (nesting right) + 1

-- each leaf is one of so many solids
abbrev pub HasLeavesBelow : ℕ → Tree → Type 0
HasLeavesBelow count (leaf solid) = solid < count
HasLeavesBelow count (join op left right) = HasLeavesBelow count left × HasLeavesBelow count right

pub record IsLawfulTree (tree : Tree) : Type 0 where
  pub leaves : leaf_count tree ≤ MAX_LEAVES
  pub depth : nesting tree ≤ MAX_NESTING
  pub solids : HasLeavesBelow 256 tree

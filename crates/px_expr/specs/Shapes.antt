-- A node as it is read, and what it leaves of values that wait: for every walk over nodes. Clauses of public
-- calls stand on it.
use Rattle.std.specs.Prelude.{ℕ, ◌<◌, ◌≤◌, List, [], ◌∷◌}
use Rattle.px_expr.specs.declared.node.Node.{Node}
use Rattle.px_expr.specs.declared.node.Node.TheVariants as n
use Rattle.px_expr.specs.declared.node.Op.{Op}
use Rattle.px_expr.specs.declared.node.Op.TheVariants as o
use Rattle.px_expr.specs.declared.node.Shape.{Shape}
use Rattle.px_expr.specs.declared.node.Shape.TheVariants as p
use Rattle.px_expr.specs.declared.node.TheConstants.{MAX_WAITING}

-- a leaf, or an operator between the places of its sides
abbrev pub node_shape : Node → Shape
node_shape (n.Leaf solid) = p.Leaf solid
node_shape (n.Union left right) = p.Join o.Union left right
node_shape (n.Meet left right) = p.Join o.Meet left right
node_shape (n.Minus left right) = p.Join o.Minus left right
node_shape (n.Differ left right) = p.Join o.Differ left right

-- the node that joins the nodes at two places
abbrev pub op_node : Op → ℕ → ℕ → Node
op_node o.Union left right = n.Union left right
op_node o.Meet left right = n.Meet left right
op_node o.Minus left right = n.Minus left right
op_node o.Differ left right = n.Differ left right

-- the last two of the values that wait, the newest first, become one
abbrev pub joined : {X : Type 0} → (Op → X → X → X) → Op → List X → List X
joined join op [] = []
joined join op (right ∷ []) = right ∷ []
joined join op (right ∷ left ∷ others) = join op left right ∷ others

-- the values that wait after a shape: a leaf adds its own, and an operator joins the last two
abbrev pub put : {X : Type 0} → (ℕ → X) → (Op → X → X → X) → List X → Shape → List X
put at join values (p.Leaf solid) = at solid ∷ values
put at join values (p.Join op left right) = joined join op values

-- where so many values wait, a shape finds its two sides, or room for one more
abbrev pub CanPlace : ℕ → Shape → Type 0
CanPlace waiting (p.Leaf solid) = waiting < MAX_WAITING
CanPlace waiting (p.Join op left right) = (2 ≤ waiting) × (waiting ≤ MAX_WAITING)

abbrev pub IsLeafBelow : ℕ → Shape → Type 0
IsLeafBelow count (p.Leaf solid) = solid < count
IsLeafBelow count (p.Join op left right) = Unit {0}

-- the places of a shape's sides
abbrev pub sides : Shape → List ℕ
sides (p.Leaf solid) = []
sides (p.Join op left right) = left ∷ right ∷ []

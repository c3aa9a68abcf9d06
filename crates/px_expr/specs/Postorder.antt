-- The nodes of a tree in postorder, and the trees that nodes stand for. Clauses of public calls stand on it.
use Rattle.std.specs.Prelude.{ℕ, ◌+◌, ◌-◌, ◌==◌, List, [], ◌∷◌, ◌++◌, fold, sum_by, count_by}
use Rattle.px_expr.specs.Tree.{Tree, leaf, join}
use Rattle.px_expr.specs.Shapes.{node_shape, op_node, put, sides}
use Rattle.px_expr.specs.declared.node.Node.{Node}
use Rattle.px_expr.specs.declared.node.Node.TheVariants as n

abbrev pub size : Tree → ℕ
size (leaf solid) = 1
size (join op left right) = size left + size right + 1

-- behind so many others: the nodes of the left side, those of the right, and the root,
-- which names the last of each
abbrev pub nodes_behind : ℕ → Tree → List Node
nodes_behind others (leaf solid) = n.Leaf solid ∷ []
nodes_behind others (join op left right) =
    (nodes_behind others left ++ nodes_behind (others + size left) right)
    ++ op_node op (others + size left - 1) (others + size left + size right - 1) ∷ []

abbrev pub nodes_of : Tree → List Node
nodes_of tree = nodes_behind 0 tree

abbrev pub placed : List Tree → Node → List Tree
placed trees node = put leaf join trees (node_shape node)

-- the trees that wait after the nodes, the last one first
abbrev pub trees_after : List Node → List Tree
trees_after nodes = fold placed [] nodes

-- how often a place is named as a side
abbrev pub parent_count : ℕ → List Node → ℕ
parent_count place nodes =
    sum_by (λ node. count_by (λ side. side == place) (sides (node_shape node))) nodes

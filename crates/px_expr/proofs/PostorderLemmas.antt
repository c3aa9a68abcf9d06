-- The nodes of a tree, read from the first on.
use Rattle.px_num.proofs.Basics.{ℕ, ◌≡◌, ◌≤◌, ◌<◌, ◌+◌, ◌*◌, List, [], ◌∷◌, ◌++◌, length, take, get_or, fold, refl}
use Rattle.px_num.proofs.Basics.{arith, rules, length-append, All, fold-append, All-append, zero}
use Rattle.px_num.proofs.Basics.{suc}
use Rattle.px_expr.proofs.Words.{CanPlace, HasLeavesBelow, IsLeafBelow, join, joined, leaf, leaf_count, MAX_NESTING}
use Rattle.px_expr.proofs.Words.{MAX_WAITING, nesting, Node, node_shape, nodes_behind, nodes_of, Op, op_node, placed}
use Rattle.px_expr.proofs.Words.{size, Tree, trees_after}
use Rattle.px_expr.proofs.OperatorLaws.{shape_of_op}

pub size_leaves : (tree : Tree) → size tree + 1 ≡ 2 * leaf_count tree
size_leaves (leaf solid) = refl
size_leaves (join op left right) = omega (arith, size_leaves left, size_leaves right)

pub length-nodes_behind : (others : ℕ) (tree : Tree) → length (nodes_behind others tree) ≡ size tree
length-nodes_behind others (leaf solid) = refl
length-nodes_behind others (join op left right) =
    grind (arith, length-append, length-nodes_behind others left, length-nodes_behind (others + size left) right)

pub placed_op : (op : Op) (l r : ℕ) (trees : List Tree) → placed trees (op_node op l r) ≡ joined join op trees
placed_op op l r trees = rw (shape_of_op op l r) refl

-- the nodes of a tree leave that tree
pub read_tree : (others : ℕ) (tree : Tree) (trees : List Tree) → fold placed trees (nodes_behind others tree)
    ≡ tree ∷ trees
read_tree others (leaf solid) trees = refl
read_tree others (join op left right) trees =
    grind (arith, fold-append, read_tree others left trees, read_tree (others + size left) right (left ∷ trees))

pub tree_of_nodes : (tree : Tree) → trees_after (nodes_of tree) ≡ tree ∷ []
tree_of_nodes tree = read_tree 0 tree []

-- each node in its turn can be placed
abbrev AllPlaced : List Tree → List Node → Type 0
AllPlaced trees [] = Unit {0}
AllPlaced trees (node ∷ nodes) = CanPlace (length trees) (node_shape node) × AllPlaced (placed trees node) nodes

placed_both : (trees : List Tree) (xs ys : List Node) → AllPlaced trees xs → AllPlaced (fold placed trees xs) ys
    → AllPlaced trees (xs ++ ys)
placed_both trees [] ys first second = second
placed_both trees (x ∷ xs) ys first second = (first.0, placed_both (placed trees x) xs ys first.1 second)

placed_tree : (others : ℕ) (tree : Tree) (trees : List Tree) → length trees + nesting tree < MAX_WAITING
    → AllPlaced trees (nodes_behind others tree)
placed_tree others (leaf solid) trees room = (omega arith, tt)
placed_tree others (join op left right) trees room =
    grind (
      arith,
      placed_both,
      read_tree,
      fold-append,
      placed_tree others left trees (omega arith),
      placed_tree (others + size left) right (left ∷ trees) (omega arith),
    )

placed_at : (trees : List Tree) (nodes : List Node) (i : ℕ) (any : Node) → AllPlaced trees nodes → i < length nodes
    → CanPlace (length (fold placed trees (take i nodes))) (node_shape (get_or nodes i any))
placed_at trees [] i any all lt = absurd (omega arith)
placed_at trees (x ∷ xs) zero any all lt = all.0
placed_at trees (x ∷ xs) (suc i) any all lt = placed_at (placed trees x) xs i any all.1 (omega arith)

pub can_place : (tree : Tree) (i : ℕ) (any : Node) → nesting tree ≤ MAX_NESTING → i < length (nodes_of tree)
    → CanPlace (length (trees_after (take i (nodes_of tree)))) (node_shape (get_or (nodes_of tree) i any))
can_place tree i any shallow lt = placed_at [] (nodes_of tree) i any (placed_tree 0 tree [] (omega arith)) lt

abbrev pub AreBelow : ℕ → List Node → Type 0
AreBelow count nodes = All (λ node. IsLeafBelow count (node_shape node)) nodes

op_is_no_leaf : (count : ℕ) (op : Op) (l r : ℕ) → AreBelow count (op_node op l r ∷ [])
op_is_no_leaf count op l r = grind (arith, shape_of_op)

pub leaves_below : (others count : ℕ) (tree : Tree) → HasLeavesBelow count tree
    → AreBelow count (nodes_behind others tree)
leaves_below others count (leaf solid) below = search rules
leaves_below others count (join op left right) below =
    let each = λ (node : Node). IsLeafBelow count (node_shape node)
    in All-append each _ _ (All-append each _ _ (leaves_below others count left below.0)
    (leaves_below (others + size left) count right below.1)) (op_is_no_leaf count op _ _)

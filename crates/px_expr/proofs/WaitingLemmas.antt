-- What is known of the trees that wait in a builder.
use Rattle.px_num.proofs.Basics.{nat_tests, common_steps, ℕ, ◌≡◌, ◌≤◌, ◌<◌, ◌+◌, ◌-◌, ◌*◌, max, List, [], ◌∷◌, ◌++◌}
use Rattle.px_num.proofs.Basics.{length, reverse, refl, ap, arith, append_assoc, length-append, reverse-append}
use Rattle.px_num.proofs.Basics.{length-reverse, fold-append}
use Rattle.px_expr.proofs.Words.{all_leaves, all_nodes, all_size, AreLawful, IsKept, join, joined, leaf, MAX_LEAVES}
use Rattle.px_expr.proofs.Words.{MAX_NESTING, nesting, newest, Node, Op, op_node, placed, size, Subtree, subtrees_of}
use Rattle.px_expr.proofs.Words.{Tree, trees_after}
use Rattle.px_expr.proofs.PostorderLemmas.{size_leaves, length-nodes_behind}
use Rattle.px_expr.specs.declared.node.Node.TheVariants as n

pub length-all_nodes : (trees : List Tree) → length (all_nodes trees) ≡ all_size trees
length-all_nodes [] = refl
length-all_nodes (tree ∷ others) = grind (arith, length-all_nodes others, length-append, length-nodes_behind)

pub length-subtrees_of : (trees : List Tree) → length (subtrees_of trees) ≡ length trees
length-subtrees_of [] = refl
length-subtrees_of (tree ∷ others) = omega (arith, length-subtrees_of others)

all_size_leaves : (trees : List Tree) → all_size trees + length trees ≡ 2 * all_leaves trees
all_size_leaves [] = refl
all_size_leaves (tree ∷ others) = omega (arith, all_size_leaves others, size_leaves tree)

-- as many subtrees are kept as trees wait, and each leaf has added a node and a subtree
pub record HasCounts (given : List Node) (kept : List Subtree) (trees : List Tree) : Type 0 where
  pub subtrees : length kept ≡ length trees
  pub nodes : length given ≡ all_size trees
  pub leaves : length given + length kept ≡ 2 * all_leaves trees

pub counts : (given : List Node) (kept : List Subtree) (trees : List Tree) → IsKept given kept trees
    → HasCounts given kept trees
counts given kept trees is = grind (arith, length-reverse, length-subtrees_of, length-all_nodes, all_size_leaves)

reverse_push : {X : Type 0} (xs : List X) (x : X) → reverse (xs ++ x ∷ []) ≡ x ∷ reverse xs
reverse_push xs x = reverse-append xs (x ∷ [])

-- a leaf is put down
pub kept_leaf : (given : List Node) (kept : List Subtree) (trees : List Tree) (solid : ℕ) → IsKept given kept trees
    → all_leaves trees < MAX_LEAVES → solid < 256 → IsKept (given ++ n.Leaf solid ∷ [])
    (kept ++ record { root = length given; nesting = 0 } ∷ []) (leaf solid ∷ trees)
kept_leaf given kept trees solid is few known = grind (arith, counts given kept trees is, reverse_push)

all_nodes_joined : (op : Op) (left right : Tree) (others : List Tree) →
    all_nodes (join op left right ∷ others)
    ≡ all_nodes (right ∷ left ∷ others) ++ op_node op (all_size others + size left - 1) (all_size others + size left
    + size right - 1) ∷ []
all_nodes_joined op left right others = grind (arith, append_assoc)

-- the last two that are kept are those of the last two trees
last_are : (kept rest : List Subtree) (left right : Subtree) (a b : Tree) (others : List Tree) → reverse kept
    ≡ subtrees_of (b ∷ a ∷ others)
    → kept ≡ rest ++ left ∷ right ∷ [] → right ∷ left ∷ reverse rest ≡ subtrees_of (b ∷ a ∷ others)
last_are kept rest left right a b others is last = grind (arith, reverse-append)

pub nesting_joined : (kept rest : List Subtree) (left right : Subtree) (op : Op) (trees : List Tree) → reverse kept
    ≡ subtrees_of trees → 2 ≤ length trees
    → kept ≡ rest ++ left ∷ right ∷ [] → max left.nesting right.nesting + 1 ≡ nesting (newest (joined join op trees))
nesting_joined kept rest left right op trees is two last = grind (arith, nat_tests, common_steps, last_are)

-- the last two trees are joined
pub kept_joined : (given : List Node) (kept rest : List Subtree) (left right : Subtree) (trees : List Tree) (op : Op)
    (depth : ℕ) → IsKept given kept trees → 2 ≤ length trees
    → kept ≡ rest ++ left ∷ right ∷ [] → depth ≡ nesting (newest (joined join op trees)) → depth ≤ MAX_NESTING
    → IsKept (given ++ op_node op left.root right.root ∷ []) (rest ++ record { root = length given; nesting = depth }
    ∷ []) (joined join op trees)
kept_joined given kept rest left right [] op depth is two last same few = absurd (omega arith)
kept_joined given kept rest left right (b ∷ []) op depth is two last same few = absurd (omega arith)
kept_joined given kept rest left right (b ∷ a ∷ others) op depth is two last same few =
    let pair = last_are kept rest left right a b others is.subtrees last
    in let right_root : right.root ≡ all_size others + size a + size b - 1 = cc
    in let left_root : left.root ≡ all_size others + size a - 1 = cc
    in let root : length given ≡ all_size others + (size a + size b + 1) - 1 =
    omega (arith, (counts given kept (b ∷ a ∷ others) is).nodes)
    in let below : reverse rest ≡ subtrees_of others = cc
    in grind (arith, all_nodes_joined, reverse_push)

-- what a node leaves of the trees that waited
pub after_push : (new old given : List Node) (node : Node) → new ≡ old ++ node ∷ [] → old ≡ given → trees_after new
    ≡ placed (trees_after given) node
after_push new old given node is same = grind (arith, fold-append)

pub same_kept : (given more : List Node) (kept others : List Subtree) (trees now : List Tree) → more ≡ given
    → others ≡ kept → now ≡ trees → IsKept given kept trees → IsKept more others now
same_kept given more kept others trees now nodes subtrees is so = rw (nodes, subtrees, is) so

pub few_leaves : (trees now : List Tree) (count : ℕ) → trees ≡ now → count ≡ all_leaves now → (count ≡ MAX_LEAVES → ⊥)
    → all_leaves trees ≤ MAX_LEAVES → all_leaves trees < MAX_LEAVES
few_leaves trees now count same is not_full most = omega (arith, ap all_leaves same)

-- the last two that are kept are nested no deeper than they may
pub nesting_most : (kept rest : List Subtree) (left right : Subtree) (trees : List Tree) → reverse kept
    ≡ subtrees_of trees → 2 ≤ length trees → kept ≡ rest ++ left ∷ right ∷ [] → AreLawful trees
    → max left.nesting right.nesting ≤ MAX_NESTING
nesting_most kept rest left right [] is two last each = absurd (omega arith)
nesting_most kept rest left right (b ∷ []) is two last each = absurd (omega arith)
nesting_most kept rest left right (b ∷ a ∷ others) is two last each = grind (arith, nat_tests, common_steps, last_are)

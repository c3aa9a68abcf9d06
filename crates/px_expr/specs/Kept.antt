-- What a builder keeps of trees that wait: all their nodes, and the root and nesting of each. Only proofs and
-- private functions stand on it.
use Rattle.std.specs.Prelude.{ℕ, ◌≡◌, ◌≤◌, ◌+◌, ◌-◌, List, [], ◌∷◌, ◌++◌, reverse}
use Rattle.px_expr.specs.Tree.{Tree, nesting, HasLeavesBelow}
use Rattle.px_expr.specs.Waiting.{all_leaves}
use Rattle.px_expr.specs.Postorder.{size, nodes_behind}
use Rattle.px_expr.specs.declared.node.Node.{Node}
use Rattle.px_expr.specs.declared.builder.Subtree.{Subtree}
use Rattle.px_expr.specs.declared.node.TheConstants.{MAX_LEAVES, MAX_NESTING}

abbrev pub all_size : List Tree → ℕ
all_size [] = 0
all_size (tree ∷ others) = all_size others + size tree

abbrev pub all_nodes : List Tree → List Node
all_nodes [] = []
all_nodes (tree ∷ others) = all_nodes others ++ nodes_behind (all_size others) tree

abbrev pub subtrees_of : List Tree → List Subtree
subtrees_of [] = []
subtrees_of (tree ∷ others) =
    record { root = all_size others + size tree - 1; nesting = nesting tree } ∷ subtrees_of others

abbrev pub AreLawful : List Tree → Type 0
AreLawful [] = Unit {0}
AreLawful (tree ∷ others) = (nesting tree ≤ MAX_NESTING) × HasLeavesBelow 256 tree × AreLawful others

pub record IsKept (given : List Node) (kept : List Subtree) (trees : List Tree) : Type 0 where
  pub nodes : given ≡ all_nodes trees
  pub subtrees : reverse kept ≡ subtrees_of trees
  pub leaves : all_leaves trees ≤ MAX_LEAVES
  pub lawful : AreLawful trees

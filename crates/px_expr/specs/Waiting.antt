-- Trees that wait to be joined, the newest first. Clauses of public calls stand on it.
use Rattle.std.specs.Prelude.{ℕ, ◌+◌, List, [], ◌∷◌}
use Rattle.px_expr.specs.Tree.{Tree, leaf, leaf_count}

abbrev pub newest : List Tree → Tree
newest [] = leaf 0
newest (tree ∷ others) = tree

abbrev pub all_leaves : List Tree → ℕ
all_leaves [] = 0
all_leaves (tree ∷ others) = leaf_count tree + all_leaves others

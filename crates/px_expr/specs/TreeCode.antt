-- How a tree is stored as a list of solids and operators, each operator after its sides. Only proofs and
-- private functions stand on it.
use Rattle.std.specs.Prelude.{ℕ, ◌≡◌, ◌⊎◌, List, [], ◌∷◌, ◌++◌, fold, refl}
use Rattle.std.specs.Coded.{Coded, code_by, coded_list, coded_ℕ, coded⊎}
use Rattle.std.proofs.Common.{ap, ◌∙◌, inl, inr}
use Rattle.std.proofs.lemmas.List.Sums.{fold-append}
use Rattle.px_expr.specs.Tree.{Tree, leaf, join}
use Rattle.px_expr.specs.Shapes.{joined}
use Rattle.px_expr.specs.Waiting.{newest}
use Rattle.px_expr.specs.declared.node.Op.{Op}
use Rattle.px_expr.specs.contracts.node.Op as op

-- a solid, or an operator between the two trees before it
abbrev Item : Type 0
Item = ℕ ⊎ Op

abbrev pub items_of : Tree → List Item
items_of (leaf solid) = inl solid ∷ []
items_of (join op left right) = (items_of left ++ items_of right) ++ inr op ∷ []

abbrev read : List Tree → Item → List Tree
read trees (inl solid) = leaf solid ∷ trees
read trees (inr op) = joined join op trees

abbrev pub tree_of : List Item → Tree
tree_of items = newest (fold read [] items)

read_back : (tree : Tree) (trees : List Tree) → fold read trees (items_of tree) ≡ tree ∷ trees
read_back (leaf solid) trees = refl
read_back (join op left right) trees =
    fold-append read trees (items_of left ++ items_of right) (inr op ∷ [])
    ∙ rw (fold-append read trees (items_of left) (items_of right))
    (rw (read_back left trees, read_back right (left ∷ trees)) refl)

pub tree_of-items_of : (tree : Tree) → tree_of (items_of tree) ≡ tree
tree_of-items_of tree = ap newest (read_back tree [])

abbrev pub tree_code : Coded Tree
tree_code = code_by (List Item) (coded_list (coded⊎ coded_ℕ op.the_row.coded)) items_of tree_of tree_of-items_of

-- Expressions without "^".
use Rattle.px_num.proofs.Basics.{◌≡◌, ◌≢◌, ℕ, ◌+◌, ◌≤◌, ◌&&◌, true, false, Bool, [], ◌∷◌, ◌++◌, length, Option, None}
use Rattle.px_num.proofs.Basics.{refl, sym, ◌∙◌, arith, list_all, list_all-append}
use Rattle.std.specs.Bool.{OnTrue}
use Rattle.std.proofs.lemmas.Bool.{OnTrue_from}
use Rattle.px_expr.specs.Postorder.{nodes_behind, nodes_of, size}
use Rattle.px_expr.specs.Shapes.{op_node}
use Rattle.px_expr.specs.Tree.{Tree, leaf, join}
use Rattle.px_expr.specs.declared.node.Op.{Op}
use Rattle.px_normal.specs.Crowd.{crowd}
use Rattle.px_normal.specs.CrowdLaw.{CrowdLaw, HasNoDiffer}
use Rattle.px_normal.specs.Forms.{sum_of_products}
use Rattle.px_normal.specs.declared.cell_box.CellBox.{CellBox}
use Rattle.px_normal.specs.declared.product.TheConstants.{MAX_PRODUCTS}
use Rattle.px_normal.specs.Counting.{capped}
use Rattle.px_tile.specs.Operators.{is_no_differ}
use Rattle.px_expr.specs.declared.node.Op.TheVariants as o

both_true : (a b : Bool) → (a && b) ≡ true → (a ≡ true) × (b ≡ true)
both_true true b both = (refl, both)
both_true false b both = absurd cc

no_differ_op : (op : Op) (left right : ℕ) → list_all is_no_differ (op_node op left right ∷ []) ≡ true → op ≢ o.Differ
no_differ_op o.Differ left right none = absurd cc
no_differ_op other left right none = λ same. absurd cc

-- where no node is "^", no operator of the tree is
pub no_differ : (others : ℕ) (tree : Tree) → list_all is_no_differ (nodes_behind others tree) ≡ true → HasNoDiffer tree
no_differ others (leaf solid) none = tt
no_differ others (join op left right) none =
    let first = nodes_behind others left in
    let second = nodes_behind (others + size left) right in
    let whole = both_true _ _ (sym (list_all-append is_no_differ (first ++ second) (op_node op _ _ ∷ [])) ∙ none) in
    let sides = both_true _ _ (sym (list_all-append is_no_differ first second) ∙ whole.0) in
    (no_differ_op op _ _ whole.1, no_differ others left sides.0, no_differ (others + size left) right sides.1)

-- without "^" no list is past the limit where the whole sum is not
pub never_crowded : ((boxes : ℕ → Option CellBox) → CrowdLaw boxes) → (tree : Tree) (count : ℕ) (few : Bool)
    → list_all is_no_differ (nodes_of tree) ≡ true → count ≡ capped (length (sum_of_products tree))
    → (few ≡ true → count ≤ MAX_PRODUCTS) → OnTrue few ((boxes : ℕ → Option CellBox) → crowd boxes tree ≡ None)
never_crowded law tree count few none is most =
    OnTrue_from few _ (λ low boxes. (law boxes).none tree (no_differ 0 tree none) (omega (arith, most low, is)))

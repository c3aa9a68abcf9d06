-- Where no "^" is in an expression, none of its wanted lists is longer than its whole sum of products.
-- Clauses of public calls stand on it.
use Rattle.std.specs.Prelude.{ℕ, ◌≡◌, ◌≢◌, ◌≤◌, ⊤, All, length, Option, None}
use Rattle.px_expr.specs.Tree.{Tree, leaf, join}
use Rattle.px_expr.specs.declared.node.Op.TheVariants as o
use Rattle.px_normal.specs.declared.cell_box.CellBox.{CellBox}
use Rattle.px_normal.specs.declared.product.TheConstants.{MAX_PRODUCTS}
use Rattle.px_normal.specs.Forms.{sum_of_products}
use Rattle.px_normal.specs.Crowd.{crowd, of_root, wanted_lists}

abbrev pub HasNoDiffer : Tree → Type 0
HasNoDiffer (leaf solid) = ⊤
HasNoDiffer (join op left right) = (op ≢ o.Differ) × HasNoDiffer left × HasNoDiffer right

pub record CrowdLaw (boxes : ℕ → Option CellBox) : Type 0 where
  pub shorter : (tree : Tree) → HasNoDiffer tree →
      All (λ list. length list ≤ length (sum_of_products tree)) (wanted_lists boxes of_root tree)
  pub none : (tree : Tree) → HasNoDiffer tree → length (sum_of_products tree) ≤ MAX_PRODUCTS →
      crowd boxes tree ≡ None

-- The live products: those that can have a cell, by the boxes of their solids. Clauses of public calls stand on it.
use Rattle.std.specs.Prelude.{ℕ, Bool, false, ◌&&◌, not, List, Option, Some, None, filter, fold, slice_index_or}
use Rattle.std.specs.List.{list_any}
use Rattle.px_expr.specs.Tree.{Tree}
use Rattle.px_normal.specs.declared.cell_box.CellBox.{CellBox}
use Rattle.px_normal.specs.declared.product.Product.{Product}
use Rattle.px_normal.specs.Sets.{has, solids}
use Rattle.px_normal.specs.Boxes.{everything, has_cell, narrowed}
use Rattle.px_normal.specs.Forms.{Forms, forms}

-- the boxes of solids by their list
abbrev pub boxes_in : List (Option CellBox) → ℕ → Option CellBox
boxes_in boxes solid = slice_index_or boxes solid None

-- a solid is both plain and barred
abbrev pub is_void : Product → Bool
is_void product = list_any (λ q. has product.barred q) (solids product.plain)

-- the common part of the boxes of some solids, where each has one: of none, everything
abbrev pub box_of_all : (ℕ → Option CellBox) → List ℕ → Option CellBox
box_of_all boxes plain = fold (λ part q. narrowed part (boxes q)) (Some everything) plain

-- whether a box is there and has a cell
abbrev pub has_some_cell : Option CellBox → Bool
has_some_cell None = false
has_some_cell (Some box) = has_cell box

-- no solid is both plain and barred, and the boxes of the plain ones have a common cell
unfoldable pub is_live : (ℕ → Option CellBox) → Product → Bool
is_live boxes product =
    not (is_void product) && has_some_cell (box_of_all boxes (solids product.plain))

-- the live ones of an expression's products, and of its complement's
abbrev pub live : (ℕ → Option CellBox) → Forms → Forms
live boxes forms = record {
  products = filter (is_live boxes) forms.products;
  complement = filter (is_live boxes) forms.complement;
}

abbrev pub live_products : (ℕ → Option CellBox) → Tree → List Product
live_products boxes tree = (live boxes (forms tree)).products

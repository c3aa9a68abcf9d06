-- The live-product law: a live list is the live ones of what its clause makes of its sides' live
-- lists, and at a place in the boxes it has the members, and shows the faces, of the whole list. Clauses of
-- public calls stand on it.
use Rattle.std.specs.Prelude.{ℕ, ◌≡◌, ◌<◌, ◌^◌, true, List, Option, filter}
use Rattle.px_expr.specs.Cells.{Cell}
use Rattle.px_expr.specs.declared.node.Op.{Op}
use Rattle.px_normal.specs.declared.cell_box.CellBox.{CellBox}
use Rattle.px_normal.specs.declared.product.Product.{Product}
use Rattle.px_normal.specs.Boxes.{is_in_box}
use Rattle.px_normal.specs.Forms.{Forms, combined_forms}
use Rattle.px_normal.specs.NormalLaw.{some_holds, some_shows}
use Rattle.px_normal.specs.Live.{is_live, live}

-- each solid that the place is inside has a box that holds it
pub record IsPlaceInBoxes (boxes : ℕ → Option CellBox) (solid_at : ℕ → Cell) (x y z : ℕ) : Type 0 where
  pub column : x < 2 ^ 32
  pub row : y < 2 ^ 32
  pub depth : z < 2 ^ 32
  pub boxed : (solid : ℕ) → (solid_at solid).member ≡ true → is_in_box (boxes solid) x y z ≡ true

pub record ShowTheSame (solid_at : ℕ → Cell) (products kept : List Product) : Type 0 where
  pub members : some_holds solid_at kept ≡ some_holds solid_at products
  pub faces : (face : ℕ) → some_shows solid_at face kept ≡ some_shows solid_at face products

pub record LiveLaw (boxes : ℕ → Option CellBox) : Type 0 where
  pub sides : (op : Op) (x y : Forms) →
      live boxes (combined_forms op x y) ≡ live boxes (combined_forms op (live boxes x) (live boxes y))
  pub places : (solid_at : ℕ → Cell) (x y z : ℕ) → IsPlaceInBoxes boxes solid_at x y z
      → (products : List Product) → ShowTheSame solid_at products (filter (is_live boxes) products)

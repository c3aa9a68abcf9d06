-- Products with the common part of their plain solids' boxes. Only proofs and private functions stand on it.
use Rattle.std.specs.Prelude.{ℕ, ◌≡◌, List, Option, map}
use Rattle.px_normal.specs.declared.cell_box.CellBox.{CellBox}
use Rattle.px_normal.specs.declared.product.Product.{Product}
use Rattle.px_normal.specs.declared.live.Boxed.{Boxed}
use Rattle.px_normal.specs.Sets.{solids}
use Rattle.px_normal.specs.Live.{box_of_all}

abbrev pub IsBoxed : (ℕ → Option CellBox) → Boxed → Type 0
IsBoxed boxes boxed = boxed.part ≡ box_of_all boxes (solids boxed.product.plain)

abbrev pub products_in : List Boxed → List Product
products_in list = map (λ boxed. boxed.product) list

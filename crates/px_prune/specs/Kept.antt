-- The products that can show anything, by the bounding boxes of their solids. Clauses of public calls stand on it.
use Rattle.std.specs.Prelude.{ℕ, Bool, false, ◌&&◌, not, List, Option, Some, None, if◌then◌else◌, filter, fold}
use Rattle.std.specs.List.{filter_map}
use Rattle.px_normal.specs.declared.set.SolidSet.{SolidSet}
use Rattle.px_normal.specs.declared.product.Product.{Product}
use Rattle.px_normal.specs.Sets.{empty, one, sets_joined, solids}
use Rattle.px_model.specs.Scenes.{SceneView}
use Rattle.px_normal.specs.declared.cell_box.CellBox.{CellBox}
use Rattle.px_normal.specs.Boxes.{common_part, has_cell}
use Rattle.px_normal.specs.Live.{is_void, box_of_all}
use Rattle.px_normal.specs.Crowd.{crowd}
use Rattle.px_normal.specs.Forms.{sum_of_products}
use Rattle.px_prune.specs.Boxes.{with_cells_behind}
use Rattle.px_prune.specs.Bounding.{bounding_box}

-- a barred solid's box, with the cells just behind it, meets the product's
abbrev pub meets : Option CellBox → CellBox → Bool
meets None part = false
meets (Some b) part = has_cell (common_part (with_cells_behind b) part)

abbrev pub set_of : List ℕ → SolidSet
set_of list = fold (λ set q. sets_joined set (one q)) empty list

-- the barred solids that count within a part
abbrev pub staying : (ℕ → Option CellBox) → CellBox → SolidSet → SolidSet
staying boxes part barred = set_of (filter (λ q. meets (boxes q) part) (solids barred))

abbrev pub pruned_within : (ℕ → Option CellBox) → Product → Option CellBox → Option Product
pruned_within boxes product None = None
pruned_within boxes product (Some part) =
    if has_cell part && not (is_void product)
    then Some (record product { barred = staying boxes part product.barred })
    else None

-- a product with the barred solids that count, where it is not void and has a box with a cell
abbrev pub pruned : (ℕ → Option CellBox) → Product → Option Product
pruned boxes product = pruned_within boxes product (box_of_all boxes (solids product.plain))

abbrev pub kept_products : (ℕ → Option CellBox) → List Product → List Product
kept_products boxes products = filter_map (pruned boxes) products

-- the products of a scene that can show anything, by the bounding boxes of its solids
abbrev pub kept_of : SceneView → List Product → List Product
kept_of scene products = kept_products (bounding_box scene) products

-- the first list past the limit that is wanted for the live products of a scene's expression
abbrev pub crowd_of : SceneView → Option ℕ
crowd_of scene = crowd (bounding_box scene) scene.show

-- the kept products of a scene's expression
abbrev pub plan_of : SceneView → List Product
plan_of scene = kept_of scene (sum_of_products scene.show)

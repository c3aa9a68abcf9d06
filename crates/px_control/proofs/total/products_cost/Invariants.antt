use Rattle.px_num.proofs.Basics.{◌≡◌, ℕ, List, ◌+◌, ◌*◌, ◌^◌, ◌≤◌, take}
use Rattle.px_control.proofs.Words.{Product, products_worth, rated, Rates, SceneView}
use Rattle.px_control.proofs.total.products_cost.Given as goal

-- the background and the first products
pub record AreCounted (cost : ℕ) (rates : Rates) (scene : SceneView) (products : List Product) (count : ℕ) : Type 0
  where
    pub counted : cost ≡ products_worth (rated rates scene) scene (take count products)
    pub few : cost ≤ 8364 + count * 2 ^ 39

abbrev pub invariant-loop-product : goal.invariant-loop-product
invariant-loop-product l = AreCounted l.costs.0 l.first l.scene l.products l.product-index
    × AreCounted l.costs.1 l.second l.scene l.products l.product-index

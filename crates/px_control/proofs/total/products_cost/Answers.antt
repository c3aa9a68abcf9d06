use Rattle.px_num.proofs.Basics.{◌≡◌, ℕ, ◌+◌, ◌<◌, ◌≤◌, ◌^◌, ◌∙◌, List, length, get_or, arith, sum_by_more}
use Rattle.px_control.proofs.Words.{Literal, literals, Product, rated, Rates, SceneView, shares_worth}
use Rattle.px_sched.specs.Groups.{no_product}
use Rattle.px_control.proofs.total.products_cost.Invariants.{AreCounted}
use Rattle.px_control.proofs.total.products_cost.Goals as goal

-- one product more
more : (cost added : ℕ) (rates : Rates) (scene : SceneView) (products : List Product) (i : ℕ) (qs : List Literal)
    → i < length products → AreCounted cost rates scene products i → qs ≡ literals (get_or products i no_product)
    → added ≡ shares_worth (rated rates scene) scene qs → added ≤ 2 ^ 39
    → AreCounted (cost + added) rates scene products (i + 1)
more cost added rates scene products i qs there before same is few = grind (arith, sum_by_more)

pub loop-product-preserved : goal.loop-product-preserved
loop-product-preserved c =
    let scene = c.args.scene.now in
    let products = c.args.products.now in
    let i = c.loop-product.product-index in
    let before = c.loop-product.invariant in
    let first = c.literals_cost.ensures in
    let second = c.literals_cost-in-loop-product.ensures in (
      more _ _ c.args.first.now scene products i c.as_slice.result.now c.loop-product-test.true before.0
          (c.as_slice.ensures.value ∙ c.literals-list.ensures) first.cost first.few,
      more _ _ c.args.second.now scene products i c.as_slice-in-loop-product.result.now c.loop-product-test.true
          before.1
          (c.as_slice-in-loop-product.ensures.value ∙ c.literals-list.ensures) second.cost second.few,
    )

-- The pruning law: at every cell of every pixel of the picture the kept products have the same
-- members, and show the same faces, as the whole list. Clauses of public calls stand on it.
use Rattle.std.specs.Prelude.{ℕ, ◌<◌, All, List}
use Rattle.px_normal.specs.declared.product.Product.{Product}
use Rattle.px_normal.specs.Forms.{HasPlain}
use Rattle.px_normal.specs.LiveLaw.{ShowTheSame}
use Rattle.px_model.specs.Scenes.{SceneView}
use Rattle.px_model.specs.Cells.{leaf_cell, depths_of, far_of}
use Rattle.px_prune.specs.Kept.{kept_of}

abbrev pub PruningLaw : SceneView → List Product → List Product → Type 0
PruningLaw scene products kept = (x y z : ℕ) → x < scene.width → y < scene.height → z < far_of scene →
    ShowTheSame (leaf_cell scene.solids (depths_of scene) x y z) products kept

-- a product that is kept has its plain solids
abbrev pub PlainIsKept : Type 0
PlainIsKept = (scene : SceneView) (products : List Product) →
    All HasPlain products → All HasPlain (kept_of scene products)

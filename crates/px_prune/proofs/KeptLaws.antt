-- What is kept of the products of a scene: it shows the same, and no product of it is void.
use Rattle.px_num.proofs.Basics.{arith, ◌≡◌, ◌<◌, ◌^◌, All, List, false}
use Rattle.px_prune.proofs.Words.{bounding_box, depths_of, is_void, IsLawfulScene, kept_of, leaf_cell, Product}
use Rattle.px_prune.proofs.Words.{SceneView, solids_laws}
use Rattle.px_prune.specs.PruningLaw.{PruningLaw}
use Rattle.px_prune.proofs.BoundingLemmas.{bounding_is}
use Rattle.px_prune.proofs.PictureLemmas.{boxes_have_cells, small_far}
use Rattle.px_prune.proofs.PruningLemmas.{kept_holds, kept_shows}
use Rattle.px_prune.proofs.StayingLemmas.{kept_apart}

pub kept_is_shown : (scene : SceneView) → IsLawfulScene scene → (products : List Product)
    → PruningLaw scene products (kept_of scene products)
kept_is_shown scene lawful products x y z left up before =
    let near_x : x < 2 ^ 32 = omega (arith, left, lawful.sizes.width_limit)
    in let near_y : y < 2 ^ 32 = omega (arith, up, lawful.sizes.height_limit)
    in let near_z : z < 2 ^ 32 =
    omega (arith, before, small_far scene.depth_bits (omega (arith, lawful.sizes.depth_limit)))
    in let at = leaf_cell scene.solids (depths_of scene) x y z
    in let fits = boxes_have_cells scene (bounding_box scene) (bounding_is scene) x y left up z
    in grind (arith, kept_holds solids_laws, kept_shows solids_laws)

pub none_is_void : (scene : SceneView) (products : List Product)
    → All (λ product. is_void product ≡ false) (kept_of scene products)
none_is_void scene products = kept_apart solids_laws (bounding_box scene) products

-- A scene of few products takes less than 2 ^ 43 clocks, and at least one for each operation.
use Rattle.px_num.proofs.Basics.{◌≡◌, ℕ, ◌+◌, ◌-◌, ◌*◌, ◌^◌, ◌<◌, ◌≤◌, false, List, [], ◌∷◌, length, get_or, refl, ap}
use Rattle.px_num.proofs.Basics.{sym, subst, arith, All, sum_by, All-head, All-tail, All-weaker, sum_by-cons, sum_by-le}
use Rattle.px_control.proofs.Words.{bare, bit_length_most, Candidate, Clocks, columns_of, counted, cycles_in, depths_of}
use Rattle.px_control.proofs.Words.{each_pass, edges_in, exponent_between, faces_in, faces_of, flat_sum, HasFace}
use Rattle.px_control.proofs.Words.{HasSolidsBelow, HoldsOf, is_void, IsLawfulScene, IsLawfulSolid, IsThere, kept_of}
use Rattle.px_control.proofs.Words.{layout_of, LayoutView, leaves_below, Literal, literals, Macro, none_is_void}
use Rattle.px_control.proofs.Words.{operations, passes, passes_are, Product, product_steps, rows_of, scene_layout}
use Rattle.px_control.proofs.Words.{SceneView, share_worth, solid_of, SolidView, Step, steps_sum, steps_there}
use Rattle.px_control.proofs.Words.{steps_with, sum_of_products, total, weighed}
use Rattle.std.proofs.lemmas.Nat.{mul-le}
use Rattle.px_face.specs.Faces.{face_count, level}
use Rattle.px_normal.proofs.NormalLemmas.{all_below}
use Rattle.px_prune.specs.Bounding.{bounding_box}
use Rattle.px_prune.proofs.StayingLemmas.{kept_below}
use Rattle.px_normal.proofs.SolidsLaws.{solids_laws}
use Rattle.px_control.proofs.CostLemmas.{blind, total_is}
use Rattle.px_control.proofs.ProductLemmas.{literals_few, product_sum}
use Rattle.px_normal.specs.declared.product.TheConstants.{MAX_PRODUCTS}
use Rattle.px_sched.proofs.FewLaws.{few_candidates, few_confirm, few_edges, once}
use Rattle.px_macro.specs.declared.operation.Macro.TheVariants as m

kept_known : (scene : SceneView) → IsLawfulScene scene
    → All (HasSolidsBelow (length scene.solids)) (kept_of scene (sum_of_products scene.show))
kept_known scene lawful =
    let count = length scene.solids in
    let leaves = leaves_below count 256 (omega (arith, lawful.solids)) scene.show lawful.shown in
    kept_below solids_laws count (bounding_box scene) _ (all_below count scene.show leaves lawful.shown)

-- a solid adds no more steps to a product as a literal: for each of its faces one as a candidate, one where it
-- confirms one, and one for each of at most 254 other literals
abbrev most_added : SolidView → ℕ
most_added s = face_count s * 256 + 512

few_shared : (scene : SceneView) (others : ℕ) (q : Literal) → others ≤ 254
    → share_worth once scene others q ≤ most_added (solid_of scene q.solid)
few_shared scene others q few = grind (arith, few_candidates, few_confirm, mul-le, once)

-- what all solids add
weights_sum : (ss : List SolidView) → sum_by most_added ss ≡ (faces_of ss + length ss) * 256 + length ss * 512
weights_sum [] = refl
weights_sum (s ∷ ss) = omega (arith, sum_by-cons most_added s ss, sum_by-cons faces_in s ss, weights_sum ss)

module _ (scene : SceneView) (lawful : IsLawfulScene scene) (each : All IsLawfulSolid scene.solids) where
  abbrev l : LayoutView
  l = layout_of scene

  abbrev taken : Macro → ℕ
  taken = cycles_in scene

  levels : columns_of scene + rows_of scene ≤ 18
  levels = grind (arith, exponent_between)

  number_most : l.number_bits ≤ 12
  number_most = bit_length_most (faces_of scene.solids)

  few_bare : (step : Step) → sum_by taken (bare l (depths_of scene) step) ≤ 410
  few_bare (Candidate solid face) = grind (arith, levels, number_most)
  few_bare step = omega (arith, levels, lawful.sizes.depth_limit, number_most)

  -- the clocks of a step
  few_step : (step : Step) → HasFace (IsThere scene) step → sum_by taken (operations scene l step) ≤ 6133
  few_step step there =
      omega (
        arith,
        weighed scene l taken (blind scene Clocks) step there,
        few_bare step,
        mul-le (edges_in scene step) (taken (m.KeepSign (level 0))) 97 59 (few_edges scene l each step)
            (omega (arith, levels)),
      )

  few_literals : (product : Product) → HasSolidsBelow (length scene.solids) product → is_void product ≡ false →
      length (literals product) ≤ 255
  few_literals product known apart = grind (arith, counted, literals_few, once)

  few_added : (product : Product) → HasSolidsBelow (length scene.solids) product → is_void product ≡ false →
      sum_by once (product_steps scene product) ≤ 1244160
  few_added product known apart =
      let others = length (literals product) - 1 in
      let few : others ≤ 254 = omega (arith, few_literals product known apart) in
      omega (
        arith,
        product_sum once scene product apart,
        literals_few most_added scene.solids (share_worth once scene others) product known apart
            (λ q there. few_shared scene others q few),
        weights_sum scene.solids,
        lawful.faces,
        lawful.solids,
      )

  pub few_clocks : length (kept_of scene (sum_of_products scene.show)) ≤ MAX_PRODUCTS → total scene < 2 ^ 43
  few_clocks few =
      let kept = kept_of scene (sum_of_products scene.show) in
      let steps = steps_with scene kept in
      let number : Product → ℕ = λ product. sum_by once (product_steps scene product) in
      let clocks : Step → ℕ = λ step. sum_by taken (operations scene l step) in
      omega (
        arith,
        total_is scene,
        ap (sum_by taken) (passes_are scene),
        flat_sum taken (operations scene l) steps,
        sum_by-le clocks 6133 steps (All-weaker (HasFace (IsThere scene)) (λ step. clocks step ≤ 6133) few_step steps
            (steps_there scene kept)),
        counted steps,
        steps_sum scene once kept,
        sum_by-le number 1244160 kept
            (λ k d there. few_added (get_or kept k d) (kept_known scene lawful k d there)
            (none_is_void scene (sum_of_products scene.show) k d there)),
        few,
      )

-- at least a clock for each operation
paid : {A : Type 0} (f : A → ℕ) (xs : List A) → All (λ x. 1 ≤ f x) xs → length xs ≤ sum_by f xs
paid f [] all = omega arith
paid f (x ∷ xs) all =
    omega (
      arith,
      sum_by-cons f x xs,
      All-head (λ x. 1 ≤ f x) x xs all,
      paid f xs (All-tail (λ x. 1 ≤ f x) x xs all),
    )

each_paid : (scene : SceneView) → IsLawfulScene scene → HoldsOf scene (layout_of scene) (λ m. 1 ≤ cycles_in scene m)
each_paid scene lawful = grind (arith, scene_layout)

pub some_clocks : (scene : SceneView) → IsLawfulScene scene → length (passes scene) ≤ total scene
some_clocks scene lawful =
    omega (
      arith,
      total_is scene,
      paid (cycles_in scene) (passes scene) (subst (All (λ m. 1 ≤ cycles_in scene m)) (sym (passes_are scene))
          (each_pass scene (layout_of scene) (λ m. 1 ≤ cycles_in scene m) (each_paid scene lawful)
          (kept_of scene (sum_of_products scene.show)))),
    )

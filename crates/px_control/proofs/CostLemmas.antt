-- What the passes of a scene come to, by the rates of their steps.
use Rattle.px_num.proofs.Basics.{◌≡◌, ◌<◌, ◌≤◌, ◌∙◌, ℕ, All, List, length, get_or, ap, sym, arith, sum_by}
use Rattle.px_num.proofs.Basics.{length-flat_map}
use Rattle.px_control.proofs.Words.{all_micros, AreRates, bare, bare_worth, but_edges, columns_of, cycles_in, depths_of}
use Rattle.px_control.proofs.Words.{first_face_step, flat_sum, HasFace, is_lawful_in_more, is_there, IsBlind, IsFace}
use Rattle.px_control.proofs.Words.{IsLawful, IsLawfulScene, IsLawfulSolid, IsStep, IsThere, kept_of, layout_of}
use Rattle.px_control.proofs.Words.{LayoutView, length-tabulate, Macro, Measure, need_of, none_is_void, operations}
use Rattle.px_control.proofs.Words.{passes, passes_are, Product, products_worth, rated, Rates, rows_of, scene_layout}
use Rattle.px_control.proofs.Words.{SceneView, some_solid, Step, steps_are_lawful, steps_there, steps_with}
use Rattle.px_control.proofs.Words.{sum_by-agree, sum_of_products, total, weighed, worth}
use Rattle.px_control.specs.Program.{program}
use Rattle.px_control.proofs.ProductLemmas.{products_sum}
use Rattle.px_macro.specs.declared.operation.Macro.TheVariants as m

-- a face of the first solid
pub first_face : (scene : SceneView) → IsLawfulScene scene → IsFace scene 0 0
first_face scene lawful = grind (arith, some_solid)

-- an operation of a step is lawful in the memory of any array
pub operation_lawful : (scene : SceneView) → IsLawfulScene scene → All IsLawfulSolid scene.solids
    → (layout : LayoutView) → layout ≡ layout_of scene → (step : Step) → IsStep scene step → (at : ℕ) (o : Macro)
    → at < length (operations scene (layout_of scene) step) → o ≡ get_or (operations scene layout step) at m.All
    → IsLawful o 256
operation_lawful scene lawful solids layout same step is at o low found =
    let lies = scene_layout scene lawful in
    let few : need_of (layout_of scene) ≤ 256 = omega (arith, lies.depth, lies.number) in
    let fits = steps_are_lawful scene lawful solids step is at m.All low in
    rw (found, same) (is_lawful_in_more _ (need_of (layout_of scene)) 256 few fits)

module _ (scene : SceneView) where
  pub clocked : (ms : List Macro) →
      length (all_micros ms (columns_of scene) (rows_of scene)) ≡ sum_by (cycles_in scene) ms
  clocked ms = grind (arith, length-flat_map, sum_by-agree, length-tabulate)

  pub total_is : total scene ≡ sum_by (cycles_in scene) (passes scene)
  unfolding program
  total_is = clocked (passes scene)

module _ (scene : SceneView) (measure : Measure) where
  abbrev l : LayoutView
  l = layout_of scene

  pub blind : IsBlind (worth scene measure)
  blind = grind arith

  blind_but_edges : IsBlind (but_edges scene measure)
  blind_but_edges = grind arith

  bare_has_none : (step : Step)
      → sum_by (but_edges scene measure) (bare l (depths_of scene) step) ≡ bare_worth scene measure step
  bare_has_none step = grind arith

  pub counted_bare : (step : Step) → IsStep scene step
      → sum_by (but_edges scene measure) (operations scene l step) ≡ bare_worth scene measure step
  counted_bare step is = grind (arith, weighed, blind_but_edges, is_there, bare_has_none)

  module _ (rates : Rates) (are : AreRates scene measure rates) where
    rated_is : (step : Step) → HasFace (IsThere scene) step
        → sum_by (worth scene measure) (operations scene l step) ≡ rated rates scene (first_face_step step)
    rated_is step h = grind (arith, weighed)

    -- what is said of the products that are kept
    pub passes_come_to : (products : List Product) → products ≡ kept_of scene (sum_of_products scene.show)
        → products_worth (rated rates scene) scene products ≡ sum_by (worth scene measure) (passes scene)
    passes_come_to products same =
        let kept = kept_of scene (sum_of_products scene.show) in
        let own = operations scene l in
        let apart = none_is_void scene (sum_of_products scene.show) in
        ap (products_worth (rated rates scene) scene) same ∙ sym (products_sum (rated rates scene) scene kept apart)
        ∙ sym (sum_by-agree (λ step. sum_by (worth scene measure) (own step))
        (λ step. rated rates scene (first_face_step step))
        (steps_with scene kept)
        (λ k d low. rated_is (get_or (steps_with scene kept) k d) (steps_there scene kept k d low)))
        ∙ sym (flat_sum (worth scene measure) own (steps_with scene kept))
        ∙ ap (sum_by (worth scene measure)) (sym (passes_are scene))

-- The operations of a text, one after another.
use Rattle.px_state.proofs.Cited.{[], ap, arith, drop, flat_map, flat_map-append, flat_map-cons, get_or}
use Rattle.px_state.proofs.Cited.{get_or-flat_map, get_or_from_slice_get, IsGoodProgram, IsLawful, IsLawfulInMore}
use Rattle.px_state.proofs.Cited.{IsPassed, lawful_here, layout_of, LayoutView, length, length-append}
use Rattle.px_state.proofs.Cited.{length-flat_map-take, List, literals_in, Macro, need_of, no_operation, None}
use Rattle.px_state.proofs.Cited.{Operation, operations, operations_before, passes_listing, purpose_of, SceneView}
use Rattle.px_state.proofs.Cited.{slice_get, slice_get-get_or, slice_get_within, Some, start_in_listing, Step, steps}
use Rattle.px_state.proofs.Cited.{sym, take, take-append-drop, take_all, take_more, told, ℕ, ◌++◌, ◌+◌, ◌<◌, ◌∙◌, ◌∷◌}
use Rattle.px_state.proofs.Cited.{◌≡◌, ◌≤◌}
use Rattle.px_macro.specs.declared.operation.Macro.TheVariants as m
use Rattle.std.proofs.lemmas.Option.{slice_get_cases}
use Rattle.px_sched.specs.Passes.{passes}
use Rattle.px_state.specs.Putting.{IsPutTo}

-- those before one, and that one
pub put_next : (Is : ℕ → Operation → Type 0) (first k : ℕ) (operation : Operation) (old new : List Operation)
    → length new ≡ length old
    → ((j : ℕ) → j < length old → first + j ≡ k → get_or new j no_operation ≡ operation)
    → ((j : ℕ) → (first + j ≡ k → ⊥) → get_or new j no_operation ≡ get_or old j no_operation)
    → IsPutTo Is first k old → Is k operation → IsPutTo Is first (k + 1) new
put_next Is first k operation old new h p q r zz5 = grind arith

-- where no element stands, the list has ended
pub no_more : {X : Type 0} (xs : List X) (k : ℕ) (d : X) → None ≡ slice_get xs k → length xs ≤ k
no_more xs k d none = grind (arith, slice_get_cases)

-- a step of a scene, and its operations among all
module _ (scene : SceneView) (pass : ℕ) (step : Step) (here : slice_get (steps scene) pass ≡ Some step) where
  abbrev own : List Macro
  own = operations scene (layout_of scene) step

  abbrev each : Step → List Macro
  each = operations scene (layout_of scene)

  inside : pass < length (steps scene)
  inside = slice_get_within (steps scene) pass step here

  step_is : get_or (steps scene) pass step ≡ step
  step_is = get_or_from_slice_get (steps scene) pass step step here

  pub operation_here : (i : ℕ) → i < length own
      → slice_get (passes scene) (operations_before scene pass + i) ≡ Some (get_or own i m.All)
  unfolding passes
  operation_here i within =
      let there : i < length (each (get_or (steps scene) pass step)) = rw step_is within in
      let below = length-flat_map-take each (steps scene) pass step inside in
      slice_get-get_or (flat_map each (steps scene)) (operations_before scene pass + i) m.All
      (omega (arith, below, there))
      ∙ ap (λ x. Some x) (get_or-flat_map each (steps scene) pass i step m.All inside there
      ∙ ap (λ s. get_or (each s) i m.All) step_is)

  -- what a layout of the scene gives for a place of the step is the operation there, which pixels of 256 bits
  -- can carry out
  module _ (l : LayoutView) (i : ℕ) (op : Macro) (layout : l ≡ layout_of scene) (within : i < length own)
      (is : op ≡ get_or (operations scene l step) i m.All) where
    pub op_is : op ≡ get_or own i m.All
    op_is = is ∙ ap (λ l. get_or (operations scene l step) i m.All) layout

    pub found_here : (k : ℕ) → k ≡ operations_before scene pass + i → slice_get (passes scene) k ≡ Some op
    found_here k at = ap (slice_get (passes scene)) at ∙ (operation_here i within ∙ ap (λ x. Some x) (sym op_is))

    pub lawful_op : IsLawfulInMore → IsGoodProgram scene → IsLawful op 256
    lawful_op more good =
        let need = need_of (layout_of scene) in
        let k = operations_before scene pass + i in
        more op need 256 (omega (arith, good.bits))
        (lawful_here need (passes scene) k op (found_here k (omega arith)) good.lawful)

  pub before_more : operations_before scene (pass + 1) ≡ operations_before scene pass + length own
  before_more =
      let front = take pass (steps scene) in
      let single : length (flat_map each (step ∷ [])) ≡ length own = simp (flat_map-cons, length-append) (omega arith)
      in
      ap (λ ss. length (flat_map each ss)) (take_more (steps scene) pass step inside
      ∙ ap (λ s. front ++ s ∷ []) step_is)
      ∙ (ap length (flat_map-append each front (step ∷ []))
      ∙ (length-append (flat_map each front) (flat_map each (step ∷ []))
      ∙ ap (λ n. length (flat_map each front) + n) single))

  -- an operation of the step is reported as one of it
  pub is_passed : (i k clock : ℕ) (op : Macro) (purpose : Operation) → i < length own
      → k ≡ operations_before scene pass + i
      → op ≡ get_or own i m.All → clock ≡ start_in_listing (passes_listing scene) k → purpose.pass ≡ pass
      → purpose ≡ purpose_of scene step purpose.pass (literals_in (take (purpose.pass + 1) (steps scene)))
      → IsPassed scene k (told op clock purpose)
  is_passed i k clock op purpose within at is begins pass_is for = grind (arith, before_more, operation_here)

-- behind the last step all operations are there
pub before_all : (scene : SceneView) (pass : ℕ) → length (steps scene) ≤ pass → operations_before scene pass
    ≡ length (passes scene)
unfolding passes
before_all scene pass past =
    ap (λ ss. length (flat_map (operations scene (layout_of scene)) ss)) (take_all pass (steps scene) past)

pub before_within : (scene : SceneView) (pass : ℕ) → operations_before scene pass ≤ length (passes scene)
unfolding passes
before_within scene pass =
    let each = operations scene (layout_of scene) in
    let front = take pass (steps scene) in
    let rest = drop pass (steps scene) in
    let parts = sym (ap (flat_map each) (take-append-drop pass (steps scene))) ∙ flat_map-append each front rest in
    omega (arith, ap length parts ∙ length-append (flat_map each front) (flat_map each rest))

use Rattle.px_num.proofs.Basics.{◌<◌, true, [], ◌∷◌, ℕ, List, length, get_or, ap, sym, arith, ◌∙◌}
use Rattle.px_shadow.proofs.Words.{depths_of, end_of, light_bit, light_passes, Macro, solid_of, solid_passes, solids}
use Rattle.px_shadow.proofs.DeviceLemmas.{all_left, can_first, each_first, each_next, left_next}
use Rattle.px_macro.specs.declared.operation.Macro.TheVariants as m
use Rattle.px_shadow.proofs.passes.one_light.Goals as goal

pub carry_out-requires : goal.carry_out-requires
carry_out-requires g c =
    rw c.light_bit.ensures
    (can_first _ (m.All ∷ m.SetBit (light_bit c.args.layout.now c.args.light) true ∷ []) _ _ c.requires.can)

pub loop-solid-init : goal.loop-solid-init
loop-solid-init g c =
    let start = all_left _ (light_passes c.args.scene.now c.args.layout.now c.args.light c.args.solids.now) _
    c.requires.can in
    left_next _ _ _ (m.All ∷ m.SetBit (light_bit c.args.layout.now c.args.light) true ∷ []) _ _ _ start
    (rw c.light_bit.ensures at c.carry_out.ensures)

pub one_solid-requires-clause-can : goal.one_solid-requires-clause-can
one_solid-requires-clause-can g c =
    let scene = c.args.scene.now in
    let f : ℕ → List Macro =
    λ q. solid_passes c.args.layout.now (end_of (depths_of scene)) c.args.light (solid_of scene q) in
    let items = c.as_slice-solid-items.ensures.value ∙ c.solids-list.ensures in
    let i = c.loop-solid.solid-index in
    let there : i < length (solids c.args.solids.now) =
    omega (arith, ap (λ (qs : List ℕ). length qs) items, c.loop-solid-test.true) in
    each_first _ _ _ f (solids c.args.solids.now) _ i _ 0 _ there
    (ap (λ (qs : List ℕ). get_or qs i 0) (sym items)) c.loop-solid.invariant

pub loop-solid-preserved : goal.loop-solid-preserved
loop-solid-preserved g c =
    let scene = c.args.scene.now in
    let f : ℕ → List Macro =
    λ q. solid_passes c.args.layout.now (end_of (depths_of scene)) c.args.light (solid_of scene q) in
    let items = c.as_slice-solid-items.ensures.value ∙ c.solids-list.ensures in
    let i = c.loop-solid.solid-index in
    let there : i < length (solids c.args.solids.now) =
    omega (arith, ap (λ (qs : List ℕ). length qs) items, c.loop-solid-test.true) in
    each_next _ _ _ f (solids c.args.solids.now) _ i _ 0 _ _ there
    (ap (λ (qs : List ℕ). get_or qs i 0) (sym items)) c.loop-solid.invariant c.one_solid.ensures

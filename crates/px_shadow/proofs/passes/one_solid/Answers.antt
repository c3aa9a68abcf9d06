use Rattle.px_num.proofs.Basics.{nat_tests, common_steps, ◌≡◌, ◌<◌, false, [], ◌∷◌, ap, arith, range_with_len}
use Rattle.px_num.proofs.Basics.{length-range_with_len}
use Rattle.px_shadow.proofs.Words.{depths_of, end_of, solid_of, face_count, LayoutView, solid_passes, stored_turn}
use Rattle.px_shadow.proofs.DeviceLemmas.{all_left, can_first, each_done, each_first, each_next, last_made, left_next}
use Rattle.px_shadow.proofs.StepLemmas.{number_at}
use Rattle.px_macro.specs.declared.operation.Macro.TheVariants as m
use Rattle.px_shadow.proofs.passes.one_solid.Goals as goal

pub carry_out-requires : goal.carry_out-requires
carry_out-requires g c =
    let par : c.layout.inside.par ≡ c.args.layout.now.par = ap (λ (v : LayoutView). v.par) c.layout.view_is in
    rw par (can_first _ (m.All ∷ m.SetBit c.args.layout.now.par false ∷ []) _ _ c.requires.can)

pub carry_out-requires-2 : goal.carry_out-requires-2
carry_out-requires-2 g c = grind (arith, nat_tests, common_steps, length-range_with_len, each_done)

pub carry_out-requires-in-loop-face : goal.carry_out-requires-in-loop-face
carry_out-requires-in-loop-face g c =
    let s = solid_of c.args.scene.now c.args.solid in
    let there : c.loop-face.face < face_count s = grind arith in
    rw (c.as_slice.ensures.value, c.turn_of.ensures)
    (each_first _ _ _ (stored_turn c.args.layout.now (end_of (depths_of c.args.scene.now)) s)
    (range_with_len 0 (face_count s)) _ c.loop-face.face c.loop-face.face 0 _
    (omega (arith, there, length-range_with_len 0 (face_count s))) (number_at (face_count s) c.loop-face.face there)
    c.loop-face.invariant)

pub loop-face-init : goal.loop-face-init
loop-face-init g c =
    let par : c.layout.inside.par ≡ c.args.layout.now.par = ap (λ (v : LayoutView). v.par) c.layout.view_is in
    let start = all_left _ (solid_passes c.args.layout.now (end_of (depths_of c.args.scene.now)) c.args.light
    (solid_of c.args.scene.now c.args.solid)) _
    c.requires.can in
    left_next _ _ _ (m.All ∷ m.SetBit c.args.layout.now.par false ∷ []) _ _ _ start
    (rw par at c.carry_out.ensures)

pub loop-face-preserved : goal.loop-face-preserved
loop-face-preserved g c =
    let s = solid_of c.args.scene.now c.args.solid in
    let there : c.loop-face.face < face_count s = grind arith in
    each_next _ _ _ (stored_turn c.args.layout.now (end_of (depths_of c.args.scene.now)) s)
    (range_with_len 0 (face_count s)) _ c.loop-face.face c.loop-face.face 0 _ _
    (omega (arith, there, length-range_with_len 0 (face_count s))) (number_at (face_count s) c.loop-face.face there)
    c.loop-face.invariant (rw (c.as_slice.ensures.value, c.turn_of.ensures) at c.carry_out-in-loop-face.ensures)

pub returns : goal.returns
returns g c = grind (arith, nat_tests, common_steps, length-range_with_len, last_made, each_done)

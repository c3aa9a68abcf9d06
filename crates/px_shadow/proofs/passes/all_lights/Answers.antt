use Rattle.px_num.proofs.Basics.{◌+◌, drop, get_or, subst, drop_all}
use Rattle.px_shadow.proofs.Words.{IsRestOf, light_passes, passes_from, shadow_passes}
use Rattle.px_shadow.proofs.DeviceLemmas.{left_first, left_next, none_left}
use Rattle.px_shadow.proofs.StepLemmas.{next_lights, no_light}
use Rattle.px_shadow.proofs.passes.all_lights.Goals as goal

pub one_light-requires-clause-can : goal.one_light-requires-clause-can
one_light-requires-clause-can g c =
    let scene = c.args.scene.now in
    let l = c.args.layout.now in
    let lights = c.args.lights.now in
    let i = c.loop-i.i in
    let next = next_lights scene l lights i c.loop-i-test.true in
    left_first _ (shadow_passes scene l lights) _ (light_passes scene l (i + 1) (get_or lights i no_light))
    (passes_from scene l (i + 1 + 1) (drop (i + 1) lights)) _
    (subst (λ ms. IsRestOf g.A.Array.BITS (shadow_passes scene l lights)
    ms (g.A.Array.view c.args.array.now) (g.A.Array.view c.loop-i.array)) next c.loop-i.invariant)

pub loop-i-preserved : goal.loop-i-preserved
loop-i-preserved g c =
    let scene = c.args.scene.now in
    let l = c.args.layout.now in
    let lights = c.args.lights.now in
    let i = c.loop-i.i in
    let next = next_lights scene l lights i c.loop-i-test.true in
    left_next _ (shadow_passes scene l lights) _ (light_passes scene l (i + 1) (get_or lights i no_light))
    (passes_from scene l (i + 1 + 1) (drop (i + 1) lights)) _ _
    (subst (λ ms. IsRestOf g.A.Array.BITS (shadow_passes scene l lights)
    ms (g.A.Array.view c.args.array.now) (g.A.Array.view c.loop-i.array)) next c.loop-i.invariant)
    c.one_light.ensures

pub returns : goal.returns
returns g c =
    let scene = c.args.scene.now in
    let l = c.args.layout.now in
    none_left _ _ _ _
    (subst (λ sets. IsRestOf g.A.Array.BITS (shadow_passes scene l
    c.args.lights.now) (passes_from scene l (c.loop-i.i + 1) sets) (g.A.Array.view c.args.array.now)
    (g.A.Array.view c.loop-i.array))
    (drop_all c.loop-i.i c.args.lights.now c.loop-i-test.false) c.loop-i.invariant)

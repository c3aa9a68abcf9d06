use Rattle.px_num.proofs.Basics.{◌≤◌, List, length, ap, subst, sym, arith, ◌∙◌}
use Rattle.px_shadow.proofs.Words.{CanMake, carried_out, layout_of, MAX_LIGHTS, need_with, shadow_passes, SolidSet}
use Rattle.px_shadow.specs.Shaded.{IsShaded}
use Rattle.px_shadow.proofs.ArrayLemmas.{can_shade, clocks_made, grid_law, is_shaded, shaded_law}
use Rattle.px_shadow.proofs.passes.shade.Given.{Over}
use Rattle.px_shadow.proofs.passes.shade.Goals as goal

pub all_lights-requires-clause-can : goal.all_lights-requires-clause-can
all_lights-requires-clause-can g c =
    let bits = g.A.Array.BITS in
    let scene = c.args.scene.now in
    let lights = c.args.lights.now.items in
    let device = (g.A.Array.view c.args.array.now).device in
    let layout = c.requires.layout in
    let enough : need_with (layout_of scene) (length lights) ≤ bits =
    subst (λ l. need_with l (length lights) ≤ bits) layout c.requires.need in
    let few : length lights ≤ MAX_LIGHTS =
    omega (arith, c.as_slice.ensures.fits, ap (λ (sets : List SolidSet). length sets) c.as_slice.ensures.value) in
    subst (λ sets. CanMake bits (shadow_passes scene c.args.layout.now sets) device) (sym c.as_slice.ensures.value)
    (subst (λ l. CanMake bits (shadow_passes scene l lights) device) (sym layout)
    (can_shade bits scene lights device c.laws_of_scenes.ensures.scene c.laws_of_scenes.ensures.solids
    c.requires.products c.requires.at c.requires.known enough few))

made : (g : Over) (c : goal.After-clocks-clocks g) → IsShaded g.A.Array.BITS c.args.scene.now c.args.lights.now.items
    (g.A.Array.view c.all_lights.new.array).device
made g c =
    let bits = g.A.Array.BITS in
    let scene = c.args.scene.now in
    let lights = c.args.lights.now.items in
    let device = (g.A.Array.view c.args.array.now).device in
    let layout = c.requires.layout in
    is_shaded bits scene lights device (g.A.Array.view c.all_lights.new.array).device c.requires.at
    (subst (λ l. need_with l (length lights) ≤ bits) layout c.requires.need)
    (c.all_lights.ensures.device
    ∙ ap (λ sets. carried_out (shadow_passes scene c.args.layout.now sets) device) c.as_slice.ensures.value
    ∙ ap (λ l. carried_out (shadow_passes scene l lights) device) layout)

pub returns-clause-shaded : goal.returns-clause-shaded
returns-clause-shaded g c = made g c

pub returns-clause-lights : goal.returns-clause-lights
returns-clause-lights g c = grind (arith, made, shaded_law)

pub returns-clause-grid : goal.returns-clause-grid
returns-clause-grid g c =
    grid_law g.A.Array.BITS c.args.scene.now c.args.lights.now.items
    (g.A.Array.view c.all_lights.new.array).device c.laws_of_scenes.ensures.scene (made g c)

pub returns-clause-worked : goal.returns-clause-worked
returns-clause-worked g c = grind (arith, clocks_made, made)

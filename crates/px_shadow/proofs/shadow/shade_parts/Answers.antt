use Rattle.px_num.proofs.Basics.{◌≡◌, None, refl, rules}
use Rattle.px_shadow.proofs.Words.{lights_fault, worded}
use Rattle.px_shadow.proofs.ShadowLemmas.{lights_serve}
use Rattle.px_shadow.proofs.shadow.shade_parts.Goals as goal

pub returns-clause-serves : goal.returns-clause-serves
returns-clause-serves g c =
    let none : lights_fault c.in_ok-scene.scene.solids c.line_behind.result (worded c.args.behind.now) ≡ None =
    search rules in
    lights_serve _ g.A.Array.BITS c.args.part.now c.args.behind.now _ _ _ _ _ c.in_ok-scene.ensures.ok.0
    c.in_ok-scene.ensures.ok.1 c.line_behind.ensures.value (rw none refl) c.in_ok-lights.ensures.lights
    c.shade_scene.ensures.serves

use Rattle.px_shadow.proofs.ShadowLemmas.{masks_are}
use Rattle.px_shadow.proofs.shadow.write_lights.Goals as goal

pub returns-clause-ok : goal.returns-clause-ok
returns-clause-ok g c =
    rw (← masks_are c.args.scene.now c.args.layout.now c.args.lights.now.items
    c.len.result
    (g.A.Array.view c.args.array.now).device.state c.len.ensures.value c.requires.lights) c.write_masks.ensures.ok

pub returns-clause-err : goal.returns-clause-err
returns-clause-err g c =
    rw (← masks_are c.args.scene.now c.args.layout.now c.args.lights.now.items
    c.len.result
    (g.A.Array.view c.args.array.now).device.state c.len.ensures.value c.requires.lights) c.write_masks.ensures.err

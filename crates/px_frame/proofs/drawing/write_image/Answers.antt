use Rattle.px_control.specs.Program.{total}
use Rattle.px_control.proofs.GridLaws.{covers_the_picture}
use Rattle.px_frame.proofs.ImageLemmas.{images_show}
use Rattle.px_frame.proofs.drawing.write_image.Goals as goal

pub write_picture-requires : goal.write_picture-requires
write_picture-requires g c =
    let scene = c.args.scene.now in
    let device = (g.A.Array.view c.args.array.now).device in
    let lawful = c.laws_of_scenes.ensures.scene in
    let covers = covers_the_picture g.A.Array.BITS scene (total scene) device lawful c.requires.drawn.at in
    rw (c.requires.layout) (record {
      «open» = covers.is_open;
      columns = covers.columns;
      rows = covers.rows;
      room = c.requires.drawn.at.enough;
    })

pub returns-clause-ok : goal.returns-clause-ok
returns-clause-ok g c =
    let state = (g.A.Array.view c.args.array.now).device.state in
    rw (← images_show c.args.scene.now _ state c.args.plane c.requires.drawn.picture, ← c.requires.layout)
    c.write_picture.ensures.ok

pub returns-clause-err : goal.returns-clause-err
returns-clause-err g c =
    let state = (g.A.Array.view c.args.array.now).device.state in
    rw (← images_show c.args.scene.now _ state c.args.plane c.requires.drawn.picture, ← c.requires.layout)
    c.write_picture.ensures.err

use Rattle.px_num.proofs.Basics.{arith, ap, sym, sum_by_more}
use Rattle.std.proofs.lemmas.List.Elements.{All-more}
use Rattle.px_model.specs.Scenes.{IsLawfulSolid, faces_in}
use Rattle.px_model.proofs.scene.faces_among.Goals as goal

pub loop-solid-preserved : goal.loop-solid-preserved
loop-solid-preserved c =
    let i = c.loop-solid.solid-index in
    let solid = c.solid-item.result in
    let inside = c.loop-solid-test.true in
    let is = sym c.solid-item.is in (
      omega (
        arith,
        c.loop-solid.invariant.0,
        c.face_count-faces.ensures.count,
        sum_by_more faces_in c.args.solids.now
            i solid inside,
        ap faces_in is,
      ),
      All-more IsLawfulSolid c.args.solids.now i solid inside c.loop-solid.invariant.1
          (rw is c.face_count-faces.ensures.lawful),
    )

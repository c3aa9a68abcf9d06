use Rattle.px_io.proofs.ToldLaws.{front_after, front_before, on_err}
use Rattle.px_frame.specs.Images.{images}
use Rattle.px_num.proofs.Basics.{◌+◌, take, drop}
use Rattle.px_frame.proofs.DrawnImageLemmas.{images_at}
use Rattle.px_frame.specs.declared.plane.Plane.TheVariants as plane
use Rattle.px_frame.proofs.drawing.write_images.Goals as goal

pub returns-in_err-write_image-clause-err : goal.returns-in_err-write_image-clause-err
returns-in_err-write_image-clause-err g c =
    let scene = c.args.scene.now in
    let planes = c.args.planes.now in
    let i = c.loop-plane.plane-index in
    rw (images_at scene planes i plane.Depth c.loop-plane-test.true)
    (on_err _ (front_before _ _ _ (images scene (drop (i + 1) planes))
    (front_after _ _ _ (images scene (take i planes)) _ c.loop-plane.invariant.taken
    c.in_err-write_image.ensures.err)))

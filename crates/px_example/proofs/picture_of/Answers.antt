use Rattle.std.proofs.Common.{◌≡◌, ◌++◌, ap, ◌∙◌, rules}
use Rattle.px_frame.specs.Picture.{depth_image, face_image}
use Rattle.px_example.proofs.picture_of.Goals as goal

pub returns-in-Ok-deliver-clause-maps : goal.returns-in-Ok-deliver-clause-maps
returns-in-Ok-deliver-clause-maps c =
    let scene = c.in_ok-scene.scene in
    let drawn : c.deliver.new.out.written ≡ depth_image scene ++ face_image scene = search rules in
    drawn ∙ ap (λ s. depth_image s ++ face_image s) c.in_ok-scene.ensures.scene

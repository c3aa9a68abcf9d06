use Rattle.px_num.proofs.Basics.{◌≡◌, arith}
use Rattle.px_frame.specs.Picture.{header}
use Rattle.px_tile.proofs.ImageLemmas.{all_after, all_small, front_then, image_is}
use Rattle.px_tile.proofs.image.write_part.Goals as goal

pub write_pixels-requires : goal.write_pixels-requires
write_pixels-requires g c = grind (arith, all_small)

pub returns-clause-ok : goal.returns-clause-ok
returns-clause-ok g c =
    let image = image_is c.args.scene.now c.laws_of_scenes.ensures.scene
    c.args.width c.args.height c.args.found.now c.requires.found c.args.part in
    let bytes : c.as_bytes.result.now ≡ header c.args.width c.args.height = cc in
    all_after _ _ _ _ _ _ _ image (rw bytes at c.in_ok-write_whole.ensures.ok) c.write_pixels.ensures.ok

pub returns-clause-err : goal.returns-clause-err
returns-clause-err g c =
    let image = image_is c.args.scene.now c.laws_of_scenes.ensures.scene
    c.args.width c.args.height c.args.found.now c.requires.found c.args.part in
    let bytes : c.as_bytes.result.now ≡ header c.args.width c.args.height = cc in
    front_then _ _ _ _ _ _ _ image (rw bytes at c.in_ok-write_whole.ensures.ok) c.write_pixels.ensures.err

use Rattle.px_model.proofs.PixelsLaws.{all_lawful, scene_kept}
use Rattle.px_model.proofs.scene.Scene.over.Goals as goal

pub solids_over-requires-clause-lawful : goal.solids_over-requires-clause-lawful
solids_over-requires-clause-lawful c =
    let laws = c.laws_of_scenes.ensures in
    rw c.solids.ensures.value
    (all_lawful c.args.pixels c.args.self.now.solids laws.solids laws.scene.numbers c.requires.lawful.constants)

pub new-requires : goal.new-requires
new-requires c =
    rw (
      c.depth_bits.ensures.value,
      c.fraction_over-fraction_bits.ensures,
      c.fraction_bits.ensures.value,
      c.in_ok-solids.ensures,
      c.solids.ensures.value,
      c.in_ok-show.ensures,
      c.show.ensures.value,
    )
    (scene_kept c.args.pixels c.args.width c.args.height c.args.self.now c.laws_of_scenes.ensures.scene
    c.requires.lawful)

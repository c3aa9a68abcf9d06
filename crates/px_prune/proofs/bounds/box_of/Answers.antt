use Rattle.px_num.proofs.Basics.{arith, pow_mono}
use Rattle.px_prune.proofs.BoundingLemmas.{is_bounding_box}
use Rattle.px_prune.proofs.PictureLemmas.{known}
use Rattle.px_prune.proofs.bounds.box_of.Goals as goal

pub grown-requires-clause-far : goal.grown-requires-clause-far
grown-requires-clause-far c = grind (arith, pow_mono)

pub returns-clause-least : goal.returns-clause-least
returns-clause-least c =
    known c.args.scene.now c.args.solid _ c.index-solids-solid.result c.of_picture-picture.result c.grown.result _ _ _ _
    c.requires c.solids.ensures.value c.index-solids-solid.is c.far.ensures c.fraction_bits.ensures.value
    c.width.ensures.value c.height.ensures.value
    c.of_picture-picture.ensures c.grown.ensures

pub returns-clause-joined : goal.returns-clause-joined
returns-clause-joined c = is_bounding_box c.args.scene.now c.args.solid _ (returns-clause-least c)

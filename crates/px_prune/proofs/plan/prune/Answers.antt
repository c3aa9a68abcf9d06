use Rattle.px_num.proofs.Basics.{arith}
use Rattle.px_prune.proofs.PictureLemmas.{is_kept}
use Rattle.px_prune.proofs.plan.prune.Goals as goal

pub returns-clause-kept : goal.returns-clause-kept
returns-clause-kept c = grind (arith, is_kept)

pub returns-clause-law : goal.returns-clause-law
returns-clause-law c =
    rw (returns-clause-kept c) (c.laws_of_pruning.ensures.law c.args.scene.now c.boxes_of.ensures.lawful
    c.args.products.now)

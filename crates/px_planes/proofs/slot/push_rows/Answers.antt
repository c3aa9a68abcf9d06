use Rattle.px_num.proofs.Basics.{◌≡◌, ◌∙◌, [], get_or, arith, get_or_default}
use Rattle.std.proofs.lemmas.List.{length-append}
use Rattle.px_planes.proofs.ShelfLemmas.{pushed_row, rows_fit}
use Rattle.px_planes.proofs.slot.push_rows.Goals as goal

pub push-requires : goal.push-requires
push-requires c =
    let row : c.words.result.now ≡ get_or c.args.rows.now c.loop-at.at [] =
    c.words.ensures ∙ (c.index-rows-at.is ∙ get_or_default c.args.rows.now c.loop-at.at _ [] (omega arith)) in
    grind (arith, rows_fit)

pub loop-at-preserved : goal.loop-at-preserved
loop-at-preserved c = grind (arith, get_or_default, length-append, pushed_row)

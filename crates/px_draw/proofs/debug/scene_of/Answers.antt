use Rattle.px_num.proofs.Basics.{◌∙◌, arith, ap, length, err_from_is_err_and}
use Rattle.px_draw.proofs.PartLemmas.{long_refuses, part_is, scene_is, text_refuses, within_is}
use Rattle.px_draw.proofs.debug.scene_of.Goals as goal

pub split_at-requires : goal.split_at-requires
split_at-requires c = grind (arith, within_is)

pub returns-then-is_cut-clause-err : goal.returns-then-is_cut-clause-err
returns-then-is_cut-clause-err c bits =
    let cut = c.is_cut.ensures.cut c.if-is_cut.true in
    rw c.too_long.ensures (long_refuses bits c.args.opening.now c.requires cut.0 cut.1)

pub returns-in_err-scene-clause-err : goal.returns-in_err-scene-clause-err
returns-in_err-scene-clause-err c bits =
    let p = err_from_is_err_and c.from_residual.result c.from_residual.ensures.1 in
    let counted = within_is c.args.opening.now.text.items _ c.min.result c.deref.ensures.value
    (omega (arith, c.min.ensures, c.len.ensures, c.deref.ensures.len, ap length c.deref.ensures.value)) in
    rw (p.1, p.2) (text_refuses bits _ _ _ c.requires (c.is_cut.ensures.short c.if-is_cut.false)
    (c.split_at.ensures.front ∙ part_is _ _ _ c.requires counted c.unwrap_or.ensures) c.in_err-scene.ensures.err)

pub returns-clause-ok : goal.returns-clause-ok
returns-clause-ok c =
    let counted = within_is c.args.opening.now.text.items _ c.min.result c.deref.ensures.value
    (omega (arith, c.min.ensures, c.len.ensures, c.deref.ensures.len, ap length c.deref.ensures.value)) in
    rw c.split_at.ensures.back (scene_is _ _ _ _ c.requires (c.is_cut.ensures.short c.if-is_cut.false) counted
    c.unwrap_or.ensures (rw c.split_at.ensures.front at c.in_ok-scene.ensures.ok))

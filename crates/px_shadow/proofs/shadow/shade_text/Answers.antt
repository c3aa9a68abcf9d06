use Rattle.px_num.proofs.Basics.{arith, refl}
use Rattle.px_shadow.proofs.ShadowLemmas.{parts_serve}
use Rattle.px_shadow.proofs.shadow.shade_text.Goals as goal

pub returns-clause-serves : goal.returns-clause-serves
returns-clause-serves g c =
    parts_serve _ c.args.text.now _ _ c.part_length-length.result _ _ _
    (omega (arith, c.if-text-ge-READ_LIMIT.false))
    c.part_length-length.ensures.value refl c.behind.ensures c.shade_parts.ensures.serves

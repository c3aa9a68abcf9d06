use Rattle.px_num.proofs.Basics.{refl, sym, ◌∙◌}
use Rattle.px_prune.proofs.Words.{depths, is_inside, with_block}
use Rattle.px_prune.proofs.ReachLemmas.{by_halves, joined_on, passed_over, shut_reach}
use Rattle.px_prune.proofs.bounds.+grown.Goals as goal

pub returns-then-is_covered : goal.returns-then-is_covered
returns-then-is_covered t c cells is =
    passed_over cells (is_inside c.args.solid.now (depths c.args.far c.args.fraction_bits)) c.args.block.now
    c.args.found is
    c.reach-reach.result c.reach-reach.ensures (sym c.is_covered.ensures ∙ c.if-is_covered.true)

pub returns-then-is_pixel : goal.returns-then-is_pixel
returns-then-is_pixel t c cells is = rw c.hull.ensures
    (joined_on cells (is_inside c.args.solid.now (depths c.args.far c.args.fraction_bits)) c.args.block.now
    c.args.found is
    c.reach-reach.result c.reach-reach.ensures (sym c.is_pixel.ensures ∙ c.if-is_pixel.true))

pub returns-then-is_shut : goal.returns-then-is_shut
returns-then-is_shut t c cells is =
    let inside = is_inside c.args.solid.now (depths c.args.far c.args.fraction_bits) in
    passed_over cells inside c.args.block.now c.args.found is _
    (shut_reach inside c.args.block.now (c.is_shut.ensures c.if-is_shut.true)) refl

pub returns : goal.returns
returns t c cells is =
    let inside = is_inside c.args.solid.now (depths c.args.far c.args.fraction_bits)
    in let half_grown = c.grown-half_grown.ensures cells is
    in by_halves cells inside c.args.block.now c.parts.result.0 c.parts.result.1 c.parts.ensures.parts _
    (c.grown.ensures (with_block cells inside c.parts.result.0) half_grown)

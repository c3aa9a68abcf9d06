use Rattle.px_num.proofs.Basics.{◌≡◌, is_some, true, false, ap, sym, ◌∙◌, arith, find}
use Rattle.px_model.specs.Pixels.{solid_over}
use Rattle.px_model.specs.Planes.{is_past, planes_in}
use Rattle.px_model.proofs.FindLemmas.{found_first, found_later}
use Rattle.px_model.proofs.pixels.past_in_solids.Goals as goal

pub returns-then-is_some : goal.returns-then-is_some
returns-then-is_some c =
    let solids = c.args.solids.now in
    let over = solid_over c.args.pixels in
    let some : is_some c.past_in_solid-past.result ≡ true = cc in
    found_first is_past planes_in over solids c.loop-solid.solid-index _ _ (omega arith)
    (c.past_in_solid-past.ensures ∙ ap (λ s. find is_past (planes_in (over s))) c.solid-item.is) some
    ∙ sym c.loop-solid.invariant

pub loop-solid-preserved : goal.loop-solid-preserved
loop-solid-preserved c =
    let solids = c.args.solids.now in
    let over = solid_over c.args.pixels in
    let none : is_some c.past_in_solid-past.result ≡ false = cc in
    c.loop-solid.invariant
    ∙ found_later is_past planes_in over solids c.loop-solid.solid-index _ _ (omega arith)
    (c.past_in_solid-past.ensures ∙ ap (λ s. find is_past (planes_in (over s))) c.solid-item.is) none

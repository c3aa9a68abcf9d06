use Rattle.px_num.proofs.Basics.{arith, ◌∙◌, sym}
use Rattle.px_control.proofs.Words.{Clocks, counted, Operations, passes}
use Rattle.px_sched.proofs.DrawnLaws.{kept_drawn}
use Rattle.px_control.proofs.CostLemmas.{passes_come_to, total_is}
use Rattle.px_control.proofs.total.cost.Goals as goal

pub returns-clause-macros : goal.returns-clause-macros
returns-clause-macros c =
    let scene = c.args.scene.now in
    c.products_cost.ensures.first
    ∙ passes_come_to scene Operations c.of-operations.result c.of-operations.ensures.rates c.as_slice.result.now
    (c.as_slice.ensures.value ∙ c.requires.products)
    ∙ sym (counted (passes scene))

pub returns-clause-clocks : goal.returns-clause-clocks
returns-clause-clocks c =
    let scene = c.args.scene.now in
    c.products_cost.ensures.second
    ∙ passes_come_to scene Clocks c.of-clocks.result c.of-clocks.ensures.rates c.as_slice.result.now
    (c.as_slice.ensures.value ∙ c.requires.products)
    ∙ sym (total_is scene)

use Rattle.px_normal.proofs.BuildingLemmas.{started}
use Rattle.px_normal.proofs.normal.products_of.Goals as goal

pub loop-step-init : goal.loop-step-init
loop-step-init c =
    started _ c.args.expr.now _ _ _ c.as_slice-rest.ensures.value c.in_ok-steps.ensures c.new-stack.ensures.items

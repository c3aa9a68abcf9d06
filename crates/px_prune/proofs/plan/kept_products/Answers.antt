use Rattle.px_num.proofs.Basics.{rules, sym, ◌∙◌, None, slice_index_or, YieldsList-at, YieldsList-end}
use Rattle.px_num.proofs.Basics.{YieldsList-from_filter_map}
use Rattle.px_prune.proofs.Words.{pruned}
use Rattle.std.proofs.Common.{tests}
use Rattle.std.proofs.lemmas.Iterator.{YieldsList-from_slice}
use Rattle.std.proofs.lemmas.List.{map-id}
use Rattle.px_prune.proofs.plan.kept_products.Goals as goal

pub returns-clause-kept : goal.returns-clause-kept
returns-clause-kept c =
    c.loop-product.invariant ∙ sym (map-id c.loop-product.yielded)
    ∙ (YieldsList-end
    (YieldsList-at c.into_iter-product-iterator.ensures.into_iter_gives
    (YieldsList-from_filter_map _ (pruned (λ q. slice_index_or c.args.boxes.now q None))
    (YieldsList-from_slice c.args.products.now (cc))
    c.filter_map-product-items.ensures.closure (λ x r q k. search (rules, tests))))
    c.loop-product.yielded _ c.loop-product.yielded_by _ _ c.in-None.is c.next.ensures.steps).0

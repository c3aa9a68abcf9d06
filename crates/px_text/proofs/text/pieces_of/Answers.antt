use Rattle.px_num.proofs.Basics.{rules, ◌==◌, YieldsList-at, YieldsList-end, YieldsList-from_slice_split}
use Rattle.px_text.proofs.text.pieces_of.Goals as goal

pub returns-clause-pieces : goal.returns-clause-pieces
returns-clause-pieces c =
    rw (c.loop-piece.invariant)
    (YieldsList-end
    (YieldsList-at c.into_iter-piece-iterator.ensures.into_iter_gives
    (YieldsList-from_slice_split _ (λ b. b == 10) _ c.split-piece-items.ensures.rest c.split-piece-items.ensures.done
    c.split-piece-items.ensures.closure (λ x b q k. search rules)))
    c.loop-piece.yielded _ c.loop-piece.yielded_by _ _ c.in-None.is c.next.ensures.steps).0

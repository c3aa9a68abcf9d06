use Rattle.px_plane_tree.proofs.HeapLemmas.{pair_law}
use Rattle.px_plane_tree.proofs.rest.is_pair_at_rest.Goals as goal

pub returns-then-are_two_at_rest : goal.returns-then-are_two_at_rest
returns-then-are_two_at_rest c = λ second.
    pair_law c.args.line c.args.h _ _ _ _ _ _ _ _ _ c.load.ensures c.doubled_pair.ensures.first
    c.doubled_pair.ensures.second
    (c.are_two_at_rest.ensures c.if-are_two_at_rest.true) (c.are_two_at_rest-then-are_two_at_rest.ensures second)

use Rattle.px_show.proofs.GapLemmas.{leaf_here, place_here, some_gap, steps}
use Rattle.px_show.proofs.print.printed_back.Goals as goal

pub put_node-requires-clause-leaf : goal.put_node-requires-clause-leaf
put_node-requires-clause-leaf c =
    rw c.shape.ensures (leaf_here _ _ _ _ _ _ _ c.nodes-rest.ensures.nodes c.loop-node.invariant.front
    c.in-Some.ensures.cases.0
    (c.nodes-rest.ensures.leaves _ c.requires))

pub put_node-requires-clause-some : goal.put_node-requires-clause-some
put_node-requires-clause-some c =
    some_gap _ _ _ _ c.loop-node.invariant.count c.in-Some.ensures.cases.0
    (place_here _ _ _ _ _ _ c.nodes-rest.ensures.nodes c.loop-node.invariant.front c.in-Some.ensures.cases.0
    c.nodes-rest.ensures.places)

pub loop-node-preserved : goal.loop-node-preserved
loop-node-preserved c =
    steps _ _ _ _ _ c.in-Some.node.now _ _ _ _ c.loop-node.invariant c.in-Some.ensures.cases.0 c.in-Some.ensures.cases.1
    (place_here _ _ _ _ _ _ c.nodes-rest.ensures.nodes c.loop-node.invariant.front c.in-Some.ensures.cases.0
    c.nodes-rest.ensures.places)
    (rw c.shape.ensures at c.in_ok-put_node.ensures.gaps) (rw c.shape.ensures at c.in_ok-put_node.ensures.text)

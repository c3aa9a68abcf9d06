use Rattle.px_num.proofs.Basics.{nat_tests, common_steps, arith, length-reverse}
use Rattle.px_expr.proofs.StackLaws.{values_more, values_last, values_length, value_popped}
use Rattle.px_expr.proofs.expr.Expr.holds.Goals as goal

pub place-requires-clause-leaf : goal.place-requires-clause-leaf
place-requires-clause-leaf c =
    rw c.shape.ensures (c.nodes-node-items.ensures.leaves _ c.requires _ _ c.loop-node-test.true)

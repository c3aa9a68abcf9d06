use Rattle.px_num.proofs.Basics.{◌≡◌, map, reverse, take}
use Rattle.px_expr.proofs.Words.{is_member, is_true, trees_after}
use Rattle.px_expr.proofs.expr.Expr.holds.Given as goal

abbrev pub invariant-loop-node : goal.invariant-loop-node
invariant-loop-node l =
    reverse l.stack.items ≡ map (is_member (is_true l.inside)) (trees_after (take l.node-index l.node-items))

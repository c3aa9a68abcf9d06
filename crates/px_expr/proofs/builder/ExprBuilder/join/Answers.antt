use Rattle.px_num.proofs.Basics.{◌∙◌, ap, sym, arith, length}
use Rattle.px_expr.proofs.Words.{join, joined, nesting, newest, placed}
use Rattle.px_expr.proofs.PostorderLemmas.{placed_op}
use Rattle.px_expr.proofs.WaitingLemmas.{counts, kept_joined, after_push, same_kept}
use Rattle.px_expr.proofs.builder.ExprBuilder.join.Goals as goal

pub invariant_of-self-2 : goal.invariant_of-self-2
invariant_of-self-2 c =
    same_kept _ _ _ _ _ _
    (c.put.ensures.nodes ∙ cc (c.reserve.ensures.items, c.node.ensures))
    (c.put.ensures.waiting ∙ cc (c.reserve.ensures.len))
    (after_push _ _ _ _ c.put.ensures.nodes c.reserve.ensures.items ∙ ap (placed _) c.node.ensures
    ∙ placed_op c.args.op _ _ _)
    (kept_joined _ _ c.take_two.new.waiting.items c.take_two.result.0 c.take_two.result.1 _ c.args.op
    c.joined_nesting-nesting.result c.self.invariant
    (omega (arith, ap length c.self.view_is)) c.take_two.ensures.items (c.joined_nesting-nesting.ensures.nesting
    c.args.op ∙ sym (ap (λ trees. nesting (newest (joined join c.args.op trees))) c.self.view_is)) (omega arith))

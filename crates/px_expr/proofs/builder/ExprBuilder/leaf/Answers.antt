use Rattle.px_num.proofs.Basics.{nat_tests, common_steps, arith}
use Rattle.px_expr.proofs.WaitingLemmas.{counts, few_leaves, kept_leaf, after_push, same_kept}
use Rattle.px_expr.proofs.builder.ExprBuilder.leaf.Goals as goal

pub put-requires-clause-few : goal.put-requires-clause-few
put-requires-clause-few c =
    let few = few_leaves _ _ _ c.self.view_is c.leaves.ensures c.if-leaves-eq-MAX_LEAVES.false c.self.invariant.leaves
    in omega (arith, (counts _ _ _ c.self.invariant).leaves)

pub invariant_of-self-2 : goal.invariant_of-self-2
invariant_of-self-2 c = grind (arith, nat_tests, common_steps, same_kept, after_push, kept_leaf, few_leaves)

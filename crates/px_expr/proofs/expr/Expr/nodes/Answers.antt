use Rattle.px_num.proofs.Basics.{◌≡◌, ap, ◌∙◌, arith}
use Rattle.px_expr.proofs.Words.{IsLawfulTree, nodes_of}
use Rattle.px_expr.proofs.PostorderLemmas.{tree_of_nodes, can_place, leaves_below, size_leaves, length-nodes_behind}
use Rattle.px_expr.proofs.SidesLemmas.{parents, behind_tree, behind_at}
use Rattle.px_expr.proofs.expr.Expr.nodes.Goals as goal

nodes_are : (c : goal.After-as_slice) → c.as_slice.result.now ≡ nodes_of c.args.self.now
nodes_are c = c.as_slice.ensures.value ∙ c.self.invariant.0 ∙ ap nodes_of c.self.view_is

lawful : (c : goal.After-as_slice) → IsLawfulTree c.args.self.now
lawful c = rw c.self.view_is at c.self.invariant.1

pub returns-clause-few : goal.returns-clause-few
returns-clause-few c = grind (arith, nodes_are, lawful, size_leaves, length-nodes_behind)

pub returns-clause-before : goal.returns-clause-before
returns-clause-before c =
    rw (nodes_are c) (λ i any lt. behind_at 0 (nodes_of c.args.self.now) i i any (omega arith)
    (behind_tree 0 c.args.self.now) lt)

pub returns-clause-once : goal.returns-clause-once
returns-clause-once c =
    rw (nodes_are c) (λ i lt. (parents i 0 c.args.self.now).inside (omega arith)
    (omega (arith, length-nodes_behind 0 c.args.self.now)))

use Rattle.std.proofs.Common.{refl, ap, ◌∙◌}
use Rattle.px_expr.specs.Shapes.{put}
use Rattle.px_expr.proofs.StackLaws.{values_more}
use Rattle.px_expr.specs.declared.node.Node.TheVariants as n
use Rattle.px_normal.specs.FormCounts.{counts_of, leaf_counts, combined_counts}
use Rattle.px_normal.proofs.CountingLemmas.{counts_join}
use Rattle.px_normal.proofs.count.count_products.Goals as goal

pub loop-node-preserved : goal.loop-node-preserved
loop-node-preserved c =
    values_more counts_of leaf_counts combined_counts (λ solid. refl) counts_join _ _ (n.Leaf 0) _ _
    c.loop-node-test.true c.loop-node.invariant (c.count.ensures
    ∙ ap (put leaf_counts combined_counts _) c.shape.ensures)

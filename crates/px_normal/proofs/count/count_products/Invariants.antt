use Rattle.std.proofs.Common.{◌≡◌, map, reverse, take}
use Rattle.px_expr.specs.Postorder.{trees_after}
use Rattle.px_normal.specs.FormCounts.{counts_of}
use Rattle.px_normal.proofs.count.count_products.Given as goal

abbrev pub invariant-loop-node : goal.invariant-loop-node
invariant-loop-node l = reverse l.stack.items ≡ map counts_of (trees_after (take l.node-index l.node-items))

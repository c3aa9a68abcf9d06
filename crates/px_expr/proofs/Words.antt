-- The words of definitions, and the laws of crates below, that proofs here cite.
pub use Rattle.px_expr.specs.Cells.{Cell, cell, combination_of, combined, complement_of, HasSurface, is_member}
pub use Rattle.px_expr.specs.Cells.{is_true, opposite, shown_in, shown_when, truth_in, truth_of, truth_when}
pub use Rattle.px_expr.specs.Cells.{where_true}
pub use Rattle.px_expr.specs.Kept.{all_nodes, all_size, AreLawful, IsKept, subtrees_of}
pub use Rattle.px_expr.specs.Postorder.{nodes_behind, nodes_of, parent_count, placed, size, trees_after}
pub use Rattle.px_expr.specs.Shapes.{CanPlace, IsLeafBelow, joined, node_shape, op_node, put, sides}
pub use Rattle.px_expr.specs.Tree.{HasLeavesBelow, IsLawfulTree, join, leaf, leaf_count, nesting, Tree}
pub use Rattle.px_expr.specs.Waiting.{all_leaves, newest}
pub use Rattle.px_expr.specs.declared.builder.Subtree.{Subtree}
pub use Rattle.px_expr.specs.declared.node.Combination.{Combination}
pub use Rattle.px_expr.specs.declared.node.Combination.TheVariants.{Both, Either, EitherWay}
pub use Rattle.px_expr.specs.declared.node.Node.{Node}
pub use Rattle.px_expr.specs.declared.node.Op.{Op}
pub use Rattle.px_expr.specs.declared.node.TheConstants.{MAX_LEAVES, MAX_NESTING, MAX_WAITING}

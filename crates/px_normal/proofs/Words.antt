-- The words of definitions, and the laws of crates below, that proofs here cite.
pub use Rattle.px_expr.proofs.OperatorLaws.{IsOneWay, none_of_none, one_way, shape_of_op}
pub use Rattle.px_expr.specs.Cells.{Cell, cell, combination_of, complement_of, has_face, opposite, own_faces, shown_in}
pub use Rattle.px_expr.specs.Cells.{shown_when, truth_in, truth_when, where_true}
pub use Rattle.px_expr.specs.Postorder.{nodes_behind, nodes_of, size}
pub use Rattle.px_expr.specs.Tree.{HasLeavesBelow, join, leaf, Tree}
pub use Rattle.px_expr.specs.declared.node.Combination.{Combination}
pub use Rattle.px_expr.specs.declared.node.Combination.TheVariants.{Both, Either, EitherWay}
pub use Rattle.px_expr.specs.declared.node.Node.{Node}
pub use Rattle.px_expr.specs.declared.node.Op.{Op}
pub use Rattle.px_expr.specs.declared.node.Sense.{Sense}
pub use Rattle.px_normal.specs.Boxed.{IsBoxed, products_in}
pub use Rattle.px_normal.specs.Building.{built, CanBuild, newest_lists, steps_of, walked}
pub use Rattle.px_normal.specs.Crowd.{both_lists, crowd, first_past_limit, left_when, of_either, of_left, of_right}
pub use Rattle.px_normal.specs.Crowd.{of_root, right_when, wanted_forms, wanted_in, wanted_lists, where_wanted}
pub use Rattle.px_normal.specs.Forms.{barred_one, both, combined_forms, crossed, forms, Forms, HasPlain}
pub use Rattle.px_normal.specs.Forms.{HasSolidsBelow, plain_one, sum_in, sum_of_products, sum_when}
pub use Rattle.px_normal.specs.Live.{box_of_all, boxes_in, has_some_cell, is_live, is_void, live}
pub use Rattle.px_normal.specs.NormalLaw.{holds, IsNormalForm, shows}
pub use Rattle.px_normal.specs.declared.product.Product.{Product}
pub use Rattle.px_normal.specs.declared.product.TheConstants.{MAX_PRODUCTS}
pub use Rattle.px_normal.specs.declared.step.Step.{Step}
pub use Rattle.px_normal.specs.declared.step.Wanted.{Wanted}
pub use Rattle.px_num.proofs.TruthLaws.{and_left, and_right, not_both, not_false, or_cases, or_left, or_right, or_true}
pub use Rattle.px_normal.proofs.BitsLaws.{has-empty, has-joined, has-one}
pub use Rattle.px_normal.proofs.SolidsLaws.{all-each, all-empty, all-joined, all-one, any-empty, any-joined, any-one}
pub use Rattle.px_normal.specs.Sets.{empty, has, IsBelow, one, sets_joined, solids}
pub use Rattle.px_normal.specs.declared.cell_box.CellBox.{CellBox}
pub use Rattle.px_normal.specs.declared.set.SolidSet.{SolidSet}

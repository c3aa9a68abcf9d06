-- The words of definitions, and the laws of crates below, that proofs here cite.
pub use Rattle.px_expr.specs.Cells.{Cell, has_face}
pub use Rattle.px_model.proofs.CellLaws.{before_end, cell_is_first, cell_is_least, cells_end, cells_grow}
pub use Rattle.px_model.specs.Cells.{cell_of, depths, Depths, depths_of, end_of, far_of, is_inside, leaf_cell, no_cell}
pub use Rattle.px_model.specs.Cells.{solid_cell, value_of}
pub use Rattle.px_model.specs.Scenes.{IsLawfulScene, SceneView, SolidView}
pub use Rattle.px_normal.specs.Live.{box_of_all, boxes_in, has_some_cell, is_void}
pub use Rattle.px_normal.specs.declared.product.Product.{Product}
pub use Rattle.px_num.proofs.MostLaws.{all_max, all_min, all_same}
pub use Rattle.px_num.proofs.TruthLaws.{and_both, and_left, and_right, and_true, filtered_few, lt_of_ints, not_both}
pub use Rattle.px_num.proofs.TruthLaws.{or_cases, or_false, or_left, or_right}
pub use Rattle.px_num.specs.Forms.{value_at}
pub use Rattle.px_prune.specs.Blocks.{greatest_in, has_pixel, in_block, is_one_pixel, IsReachOf, least_in, with_block}
pub use Rattle.px_prune.specs.Bounding.{bounding_box, cell_box, cells_of, in_rows, IsBoundingBox, IsBoxOf, pixel_hull}
pub use Rattle.px_prune.specs.Bounding.{row_hull, rows_hull}
pub use Rattle.px_prune.specs.Boxes.{hull, is_part, with_cells_behind}
pub use Rattle.px_prune.specs.Kept.{kept_of, kept_products, meets, pruned, pruned_within, set_of, staying}
pub use Rattle.px_prune.specs.declared.block.Block.{Block}
pub use Rattle.px_normal.proofs.BoxLaws.{in_common_part, in_everything, in_narrowed}
pub use Rattle.px_normal.proofs.SolidsLaws.{any_last, solids_laws}
pub use Rattle.px_normal.specs.Boxes.{common_part, everything, has_cell, is_in_box, lies_in, narrowed}
pub use Rattle.px_normal.specs.SetLaws.{LawsOfSets}
pub use Rattle.px_normal.specs.Sets.{below, empty, has, one, sets_joined, solids}
pub use Rattle.px_normal.specs.declared.cell_box.CellBox.{CellBox}
pub use Rattle.px_normal.specs.declared.set.SolidSet.{SolidSet}
pub use lib.IntN.{nat_abs, negsuc}
pub use lib.Signed.{le_z, lt_z}

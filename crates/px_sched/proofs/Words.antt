-- The words of definitions, and the laws of crates below, that proofs here cite.
pub use Rattle.arrayvec.specs.ArrayVec.{array_vec_len}
pub use Rattle.px_expr.proofs.LeafLaws.{leaves_below, some_solid}
pub use Rattle.px_expr.specs.Cells.{Cell, has_face}
pub use Rattle.px_expr.specs.Tree.{HasLeavesBelow}
pub use Rattle.px_face.specs.Covering.{covering_back, covering_front, is_met, is_odd, is_passed_at}
pub use Rattle.px_face.proofs.CellLemmas.{has_cells}
pub use Rattle.px_face.proofs.CoveringLemmas.{covered_once}
pub use Rattle.px_face.proofs.EdgeLemmas.{edges_count, edges_range}
pub use Rattle.px_face.proofs.ParityLemmas.{odd_inside_at}
pub use Rattle.px_face.proofs.RangeLemmas.{plane_of_range}
pub use Rattle.px_face.specs.Edges.{covers, edge_count, edges, hold_at}
pub use Rattle.px_face.specs.Faces.{back_planes, face_count, face_number, face_plane, is_front_face, level}
pub use Rattle.px_face.specs.Faces.{numbers_in_faces, planes_in_faces}
pub use Rattle.px_macro.specs.declared.field.Field.{Field}
pub use Rattle.px_macro.specs.declared.operation.Macro.{Macro}
pub use Rattle.px_model.proofs.CellLaws.{cell_is_first, cell_is_least, end_is_small}
pub use Rattle.px_model.specs.Cells.{backs_at, cell_of, Depths, depths_of, end_of, enters_at, faces_at, far_of}
pub use Rattle.px_model.specs.Cells.{first_cell, fronts_at, greatest_fronts, is_inside, is_inside_at, is_inside_before}
pub use Rattle.px_model.specs.Cells.{is_member_at, leaf_cell, least, leaves_at, no_cell, picture, scene_cell, Sight}
pub use Rattle.px_model.specs.Cells.{sight_at, solid_cell, value_of}
pub use Rattle.px_model.specs.Scenes.{AreNumberedFrom, faces_in, faces_of, IsLawfulScene, IsLawfulSolid, IsNumberedFrom}
pub use Rattle.px_model.specs.Scenes.{IsPlane, SceneView, SolidView}
pub use Rattle.px_model.specs.declared.solid.Face.{Face}
pub use Rattle.px_normal.specs.Forms.{HasPlain, HasSolidsBelow, sum_of_products}
pub use Rattle.px_normal.specs.Live.{is_void}
pub use Rattle.px_normal.specs.NormalLaw.{holds, shows, some_shows}
pub use Rattle.px_normal.specs.declared.product.Product.{Product}
pub use Rattle.px_num.proofs.BitLaws.{modulo_below, pow_above}
pub use Rattle.px_num.proofs.FormLaws.{value_at-plus, wider}
pub use Rattle.px_num.proofs.RangeLaws.{range_all, range_cut}
pub use Rattle.px_num.proofs.TruthLaws.{and_both, and_false, and_left, and_right, and_true, beq_true, eqb_holds}
pub use Rattle.px_num.proofs.TruthLaws.{eqb_itself, eqb_other, first_of_three, int_eq_holds, int_same_true, le_false}
pub use Rattle.px_num.proofs.TruthLaws.{le_true, lt_fails, lt_false, lt_holds, lt_is_not_le, lt_true, min_cases, never}
pub use Rattle.px_num.proofs.TruthLaws.{or_left, or_right, or_true, same_true, third_of_three, turned_from_false}
pub use Rattle.px_num.specs.Bits.{bit_at, modulo}
pub use Rattle.px_num.specs.Forms.{IsInTreeRange, plus, value_at}
pub use Rattle.px_num.specs.declared.linear.Linear.{Linear}
pub use Rattle.px_prune.specs.Kept.{kept_of, plan_of}
pub use Rattle.px_sched.specs.Groups.{BeginAt, behind_stage, from_stage, IsStage, literal_of, literals_from, no_product}
pub use Rattle.px_sched.specs.Groups.{others_of, product_at, products_from, step_of}
pub use Rattle.px_sched.specs.Layouts.{bit_length, deep_part, depth_part, fraction_part, IsLayout, layout_of}
pub use Rattle.px_sched.specs.Layouts.{layout_with, LayoutView, need_of, number_part}
pub use Rattle.px_sched.specs.Numbers.{after_step, after_steps, dropped, flipped, is_passing, key, KeyedPixel, Keys}
pub use Rattle.px_sched.specs.Numbers.{loaded, residue, where_passing, without_fraction}
pub use Rattle.px_sched.specs.Onward.{AreKnown, around_edges, BeginWith, HasKnownLiterals, passed_plane}
pub use Rattle.px_sched.specs.Passes.{candidate_faces, confirm, judge, keep_covered, literal, literal_at, literal_steps}
pub use Rattle.px_sched.specs.Passes.{literals, literals_of, load_candidate, no_literal, no_solid, operations, others}
pub use Rattle.px_sched.specs.Passes.{passes, product_steps, solid_of, steps_with, where_fraction, where_passed}
pub use Rattle.px_sched.specs.Steps.{behind_step, HasFace, IsStep, IsThere, judged_from, passes_with}
pub use Rattle.px_sched.specs.Worths.{bare, confirm_worth, edges_in, first_face_step, judged_worth, own_worth, passing}
pub use Rattle.px_sched.specs.declared.group.Stage.{Stage}
pub use Rattle.px_sched.specs.declared.group.Stage.TheVariants.{At}
pub use Rattle.px_sched.specs.declared.literal.Literal.{Literal}
pub use Rattle.px_sched.specs.declared.step.Step.{Step}
pub use Rattle.px_sched.specs.declared.step.Step.TheVariants.{Begin, Candidate, Clear, Close, Confirm, Drop, Front}
pub use Rattle.px_sched.specs.declared.step.Step.TheVariants.{Merge, Open, Turn}
pub use Rattle.px_normal.specs.declared.set.SolidSet.{SolidSet}
pub use Rattle.std.proofs.lemmas.Bool.{cases_order, cond-false}
pub use Rattle.std.proofs.lemmas.List.{length-drop, length-take}
pub use lib.Signed.{le_z, lt_z}

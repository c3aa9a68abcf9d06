-- The words of definitions, and the laws of crates below, that proofs here cite.
pub use Rattle.px_expr.specs.Cells.{Cell, cell, combined, has_face, HasSurface, is_member, shown_in, shown_when}
pub use Rattle.px_face.specs.Covering.{covering_back, covering_front, greatest_place, HasCells, is_met, is_odd}
pub use Rattle.px_face.specs.Covering.{is_passed_at, IsCoveredOnce, IsInsideByParity}
pub use Rattle.px_face.specs.Edges.{above, at_least, back_edges, edge_count, edges, front_edges, hold_at, leads}
pub use Rattle.px_face.specs.Edges.{trails}
pub use Rattle.px_face.specs.Faces.{back_planes, face_count, face_number, face_plane, front_planes, is_front_face}
pub use Rattle.px_face.specs.Faces.{level, numbers_in_faces, planes_in_faces}
pub use Rattle.px_face.specs.Surfaces.{FirstCellsAreFirst, IsFirst, IsFirstOf, NoMemberBehind, PicturesShowBackground}
pub use Rattle.px_face.specs.Surfaces.{PicturesShowFaces, scene_before, ScenesHaveSurfaces, solid_before}
pub use Rattle.px_model.proofs.CellLaws.{before_end, cell_is_first, cell_is_least, cell_whole, cells_end, cells_grow}
pub use Rattle.px_model.proofs.CellLaws.{value_whole}
pub use Rattle.px_model.specs.Cells.{backs_at, cell_of, depths, Depths, depths_of, end_of, enters_at, faces_at, far_of}
pub use Rattle.px_model.specs.Cells.{first, first_cell, fronts_at, greatest_fronts, is_inside, is_inside_at}
pub use Rattle.px_model.specs.Cells.{is_member_at, leaf_cell, least, leaves_at, no_cell, scene_cell, sight_at}
pub use Rattle.px_model.specs.Cells.{solid_cell}
pub use Rattle.px_model.specs.Scenes.{AreFaces, AreNumberedFrom, faces_in, faces_of, IsLawfulScene, IsLawfulSolid}
pub use Rattle.px_model.specs.Scenes.{IsPlane, SceneView, SolidView}
pub use Rattle.px_model.specs.declared.solid.Face.{Face}
pub use Rattle.px_num.proofs.MostLaws.{all_max, all_min, all_same}
pub use Rattle.px_num.proofs.TruthLaws.{and_both, and_false, and_left, and_right, and_true, eqb_holds, eqb_itself}
pub use Rattle.px_num.proofs.TruthLaws.{eqb_other, first_of_three, int_eq_holds, int_same_true, itself_true, le_true}
pub use Rattle.px_num.proofs.TruthLaws.{lt_fails, lt_false, lt_holds, lt_is_not_le, lt_of_ints, lt_true, min_cases}
pub use Rattle.px_num.proofs.TruthLaws.{never, same_true, third_of_three}
pub use Rattle.px_num.specs.Forms.{IsInTreeRange, IsWithin, minus, value_at}
pub use Rattle.px_num.specs.declared.linear.Linear.{Linear}
pub use Rattle.std.proofs.lemmas.List.{drop-map, get_or-drop, length-drop, length-take-le, take-map}
pub use lib.Signed.{le_z, lt_z}

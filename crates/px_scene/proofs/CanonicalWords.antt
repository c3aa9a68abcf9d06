-- The words of definitions, and the laws of crates below, that proofs here cite.
pub use Rattle.px_scene.specs.Canonical.{canonical_text, colour_words, depth_words, face_line, face_lines_at}
pub use Rattle.px_scene.specs.Canonical.{first_lines, lines_of_number, show_line, side_line, solid_lines}
pub use Rattle.px_scene.specs.Canonical.{version_for, words_of_plane, written_line}
pub use Rattle.px_scene.specs.Writable.{IsReadAs, IsWritable}
pub use Rattle.px_expr.specs.Tree.{HasLeavesBelow, IsLawfulTree, leaf_count, Tree}
pub use Rattle.px_model.proofs.FaceLaws.{faces_of-cons}
pub use Rattle.px_model.specs.Scenes.{AreFaces, AreNumberedFrom, faces_in, faces_of, has_number, IsColour}
pub use Rattle.px_model.specs.Scenes.{IsLawfulScene, IsLawfulSolid, IsNumberedFrom, IsPlane, names_of, SceneView}
pub use Rattle.px_model.specs.Scenes.{SolidView}
pub use Rattle.px_model.specs.declared.solid.Colour.{Colour}
pub use Rattle.px_model.specs.declared.solid.Face.{Face}
pub use Rattle.px_num.specs.Forms.{IsWithin}
pub use Rattle.px_num.specs.declared.linear.Linear.{Linear}
pub use Rattle.px_scene.specs.Drafts.{blank, draft_of, DraftView, drawn, fault_by, fault_in, fresh_solid, in_last}
pub use Rattle.px_scene.specs.Drafts.{taken, taken_by, with_back, with_front, with_last, with_side}
pub use Rattle.px_show.proofs.PrintedLaws.{names_lawful, printed_good, printed_tree, printed_uncommented, signs_of}
pub use Rattle.px_show.specs.Expressions.{has_names, has_signs, is_among, Named}
pub use Rattle.px_show.specs.Judged.{first_bad, past, size_past}
pub use Rattle.px_show.specs.Printed.{AreDistinctNames, named_by, printed}
pub use Rattle.px_show.specs.Versions.{has_differ, has_difference, version_word}
pub use Rattle.px_show.specs.declared.scene_version.Version.{Version}
pub use Rattle.px_text.proofs.LineLaws.{small_size}
pub use Rattle.px_text.proofs.PlainLaws.{before_none, both, decimal_plain, is_no_comment, name_bytes, name_is_plain}
pub use Rattle.px_text.proofs.PlainLaws.{names_plain, plain_byte, plain_fed, signed_plain, spaced_fed}
pub use Rattle.px_text.specs.Text.{is_name, worded, Words, words_of}
pub use Rattle.px_text.specs.Written.{are_plain, fed, is_no_feed, is_plain, spaced}

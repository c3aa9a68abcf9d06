-- The words of definitions, and the laws of crates below, that proofs here cite.
pub use Rattle.px_model.proofs.FaceLaws.{faces_of-cons}
pub use Rattle.px_model.proofs.SolidLemmas.{All-push, faces_pushed}
pub use Rattle.px_model.specs.Scenes.{AreNumberedFrom, faces_in, faces_of, has_number, IsColour, IsLawfulSolid}
pub use Rattle.px_model.specs.Scenes.{IsNumberedFrom, IsPlane, names_of, SolidView}
pub use Rattle.px_model.specs.declared.solid.Face.{Face}
pub use Rattle.px_num.proofs.TruthLaws.{none_first, none_second}
pub use Rattle.px_num.specs.declared.linear.Linear.{Linear}
pub use Rattle.px_scene.specs.DraftViews.{IsDraftOf}
pub use Rattle.px_scene.specs.Drafts.{blank, colour_of, draft_of, DraftView, drawn, face_of, fault_by, fault_in}
pub use Rattle.px_scene.specs.Drafts.{form_in, fresh_solid, taken, taken_by, tally_of, with_back, with_form}
pub use Rattle.px_scene.specs.Drafts.{with_front, with_last, with_side}
pub use Rattle.px_scene.specs.LawfulDrafts.{CanBeTaken, CanTakeFace, is_begun, is_ended, IsLawfulDraft}
pub use Rattle.px_scene.specs.Lines.{back, colour_past, depth, depth_past, due_after, end, face_limit, face_past, Form}
pub use Rattle.px_scene.specs.Lines.{form_of, fraction_past, front, header, is_due, keyword_of, most, not_due, picture}
pub use Rattle.px_scene.specs.Lines.{plane_form, plane_past, show, side, size_of, solid, two_of}
pub use Rattle.px_scene.specs.Reading.{fault_behind, is_nothing}
pub use Rattle.px_scene.specs.declared.line.Due.{Due}
pub use Rattle.px_scene.specs.declared.line.Keyword.{Keyword}
pub use Rattle.px_scene.specs.declared.line.Paint.{Paint}
pub use Rattle.px_scene.specs.declared.line.Plane.{Plane}
pub use Rattle.px_show.specs.Expressions.{is_among, show_cause, show_tree}
pub use Rattle.px_show.specs.Judged.{first_bad, past, refused, SceneFault}
pub use Rattle.px_show.specs.declared.fault.Cause.{Cause}
pub use Rattle.px_show.specs.declared.fault.LimitKind.{LimitKind}
pub use Rattle.px_show.specs.declared.fault.LineFault.{LineFault}
pub use Rattle.px_text.specs.Text.{is_name, lines_of, worded, Words}

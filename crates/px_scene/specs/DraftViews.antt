-- The draft that the code keeps, and what the lines of a text say of it. Only proofs and private functions stand on it.
use Rattle.std.specs.Prelude.{◌≡◌, List}
use Rattle.px_text.specs.Text.{Words}
use Rattle.px_scene.specs.declared.draft.Draft.{Draft}
use Rattle.px_scene.specs.Drafts.{DraftView, draft_of}
use Rattle.px_scene.specs.LawfulDrafts.{IsLawfulDraft}

abbrev pub view_of : Draft → DraftView
view_of draft = record {
  version = draft.version;
  due = draft.due;
  numbered = draft.numbered;
  width = draft.width;
  height = draft.height;
  depth_bits = draft.depth_bits;
  fraction_bits = draft.fraction_bits;
  solids = draft.solids.items;
  show = draft.show;
}

-- the draft of lines of which none is bad
pub record IsDraftOf (draft : DraftView) (lines : List Words) : Type 0 where
  pub says : draft ≡ draft_of lines
  pub lawful : IsLawfulDraft draft

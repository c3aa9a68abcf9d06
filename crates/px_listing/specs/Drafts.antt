-- The draft that the code keeps, and what the lines of a text say of it. Only proofs and private functions stand on it.
use Rattle.std.specs.Prelude.{◌≡◌, ◌^◌, ℕ, ◌+◌, ◌≤◌, All, List, length, Result, Ok, Err}
use Rattle.std.specs.Bool.{⊤}
use Rattle.px_macro.specs.Macros.{IsLawful}
use Rattle.px_num.specs.Forms.{IsWithin}
use Rattle.px_show.specs.declared.fault.Cause.{Cause}
use Rattle.px_text.specs.Text.{Words}
use Rattle.px_tree.specs.Nodes.{IsGrid}
use Rattle.px_listing.specs.Lines.{ListForm, closing, grid, opening, operation}
use Rattle.px_listing.specs.Reading.{ListingDraft, listing_draft_of}
use Rattle.px_listing.specs.declared.draft.Draft.{Draft}
use Rattle.px_listing.specs.declared.judge.Entry.{Entry}
use Rattle.px_listing.specs.declared.judge.Entry.TheVariants as e
use Rattle.px_listing.specs.declared.keyword.Due.{Due}
use Rattle.px_listing.specs.declared.keyword.Due.TheVariants as d

abbrev pub listing_view_of : Draft → ListingDraft
listing_view_of draft = record { due = draft.due; nx = draft.nx; ny = draft.ny; macros = draft.macros.items }

-- a line of good form, as the code keeps it
abbrev pub told_by : Entry → ListForm
told_by e.Opening = opening
told_by (e.Grid nx ny) = grid nx ny
told_by (e.Operation kind numbers) = operation kind numbers.items
told_by e.Closing = closing

abbrev pub told_of : Result Entry Cause → Result ListForm Cause
told_of (Ok form) = Ok (told_by form)
told_of (Err cause) = Err cause

-- numbers whose sums the code can make
abbrev pub AreSmall : ListForm → Type 0
AreSmall (operation kind numbers) = All (IsWithin (10 ^ 18)) numbers
AreSmall form = ⊤

-- how many lines stand before the operations at least
abbrev pub head_of : Due → ℕ
head_of d.Header = 0
head_of due = 1

-- operations come only after a line
abbrev pub IsOpened : Due → ListForm → Type 0
IsOpened due (operation kind numbers) = 1 ≤ head_of due
IsOpened due form = ⊤

-- what the drafts of so many good lines keep
pub record IsDraft (bits count : ℕ) (draft : ListingDraft) : Type 0 where
  pub grid : IsGrid draft.nx draft.ny
  pub lawful : All (λ m. IsLawful m bits) draft.macros
  pub few : length draft.macros + head_of draft.due ≤ count

-- the draft of lines of which none is bad
pub record IsListingDraftOf (bits : ℕ) (draft : ListingDraft) (lines : List Words) : Type 0 where
  pub says : draft ≡ listing_draft_of lines
  pub keeps : IsDraft bits (length lines) draft

-- A listing's text line by line: the first bad line, and the listing of a text that has none.
-- Each line is judged by what the lines before it have said. Clauses of public calls stand on it.
use Rattle.std.specs.Prelude.{ℕ, ◌++◌, List, [], ◌∷◌, length, Bool, true, false, Option, Some, None}
use Rattle.std.specs.Prelude.{Result, Ok, Err, fold}
use Rattle.px_macro.specs.declared.operation.Macro.{Macro}
use Rattle.px_show.specs.Judged.{first_bad, refused}
use Rattle.px_show.specs.declared.fault.Cause.{Cause}
use Rattle.px_show.specs.declared.fault.LineFault.{LineFault}
use Rattle.px_show.specs.declared.fault.LineFault.TheVariants as f
use Rattle.px_show.specs.declared.fault.TextFault.{TextFault}
use Rattle.px_text.specs.Text.{Words, lines_of, worded}
use Rattle.px_scene.specs.Lines.{size_of}
use Rattle.px_listing.specs.Keywords.{listing_keyword_of}
use Rattle.px_listing.specs.Kinds.{operation_with}
use Rattle.px_listing.specs.Limits.{listing_limit_of}
use Rattle.px_listing.specs.Lines.{ListForm, closing, grid, opening, operation, timely_form}
use Rattle.px_listing.specs.Listings.{ListingView}
use Rattle.px_listing.specs.declared.keyword.Due.{Due}
use Rattle.px_listing.specs.declared.keyword.Due.TheVariants as d
use Rattle.px_listing.specs.declared.limit.ListKind.{ListKind}

-- why a text is no listing
abbrev pub ListFault : Type 0
ListFault = TextFault ListKind

-- what lines have said: what is expected, the exponents of the grid's columns and rows, and the operations
pub record ListingDraft : Type 0 where
  pub due : Due
  pub nx : ℕ
  pub ny : ℕ
  pub macros : List Macro

-- what stands before the first line
abbrev pub unwritten : ListingDraft
unwritten = record { due = d.Header; nx = 1; ny = 1; macros = [] }

abbrev pub with_operation : Option Macro → List Macro → List Macro
with_operation None ops = ops
with_operation (Some op) ops = ops ++ op ∷ []

-- what a good line adds
abbrev pub extended : ListingDraft → ListForm → ListingDraft
extended draft opening = record draft { due = d.Grid }
extended draft (grid nx ny) = record draft { due = d.Operation; nx = size_of nx; ny = size_of ny }
extended draft (operation kind numbers) = record draft {
  due = d.Operation;
  macros = with_operation (operation_with kind numbers) draft.macros;
}
extended draft closing = record draft { due = d.Nothing }

-- why a line is bad, by its form, and then by its limits in pixels of so many memory bits
abbrev pub bad_by : (bits : ℕ) → Result ListForm Cause → Option (LineFault ListKind)
bad_by bits (Err cause) = Some (f.Malformed cause)
bad_by bits (Ok form) = listing_limit_of bits form

abbrev pub bad_in : (bits : ℕ) → Due → Words → Option (LineFault ListKind)
bad_in bits due [] = None
bad_in bits due (w ∷ ws) = bad_by bits (timely_form due (listing_keyword_of w) ws)

-- the draft after a line, which is as before after one of no good form
abbrev pub extended_by : ListingDraft → Result ListForm Cause → ListingDraft
extended_by draft (Err cause) = draft
extended_by draft (Ok form) = extended draft form

abbrev pub listing_taken : ListingDraft → Words → ListingDraft
listing_taken draft [] = draft
listing_taken draft (w ∷ ws) = extended_by draft (timely_form draft.due (listing_keyword_of w) ws)

-- what lines say, one after another
abbrev pub listing_draft_of : List Words → ListingDraft
listing_draft_of lines = fold listing_taken unwritten lines

-- why a line is bad behind others
abbrev pub listing_fault_behind : (bits : ℕ) → (before : List Words) → Words → Option (LineFault ListKind)
listing_fault_behind bits before line = bad_in bits (listing_draft_of before).due line

-- the listing of a draft, and of a text without a bad line
abbrev pub listing_in : ListingDraft → ListingView
listing_in draft = record { nx = draft.nx; ny = draft.ny; macros = draft.macros }

abbrev pub listing_of : List Words → ListingView
listing_of lines = listing_in (listing_draft_of lines)

-- whether nothing more is expected, as after the end
abbrev pub is_listing_over : Due → Bool
is_listing_over d.Nothing = true
is_listing_over due = false

-- why a text is no listing for pixels of so many memory bits, where it is none
abbrev pub listing_refusal_of : (bits : ℕ) → List ℕ → Option ListFault
listing_refusal_of bits text =
    refused (first_bad (listing_fault_behind bits) [] (worded text))
    (is_listing_over (listing_draft_of (worded text)).due) (length (lines_of text))

-- A line as it is written, and what one that is read says, or why its words are bad.
-- Clauses of public calls stand on it.
use Rattle.std.specs.Prelude.{ℕ, ℤ, pos, ◌==◌, List, [], ◌∷◌, ◌++◌, length, map, not, if◌then◌else◌, Bool}
use Rattle.std.specs.Prelude.{is_some, unwrap_or, Result, Ok, Err}
use Rattle.std.specs.Fmt.{signed_decimal}
use Rattle.std.specs.List.{list_all}
use Rattle.std.specs.Option.{ok_or}
use Rattle.px_show.specs.declared.fault.Cause.{Cause}
use Rattle.px_show.specs.declared.fault.Cause.TheVariants as c
use Rattle.px_scene.specs.Lines.{two_of}
use Rattle.px_text.specs.Text.{Words, number_of}
use Rattle.px_text.specs.Written.{spaced}
use Rattle.px_listing.specs.Keywords.{is_one}
use Rattle.px_listing.specs.Kinds.{number_count, shape_of}
use Rattle.px_listing.specs.declared.kind.Kind.{Kind}
use Rattle.px_listing.specs.declared.keyword.Keyword.{Keyword}
use Rattle.px_listing.specs.declared.keyword.Keyword.TheVariants as k
use Rattle.px_listing.specs.declared.keyword.Due.{Due}
use Rattle.px_listing.specs.declared.keyword.Due.TheVariants as d

-- a word, the numbers behind it, and the line feed
unfoldable pub number_line : List ℕ → List ℤ → List ℕ
number_line word zs = word ++ spaced (map signed_decimal zs) ++ 10 ∷ []

-- a line of good form, by what it says: its numbers are within no limit yet
pub data ListForm : Type 0 where
  opening : ListForm
  grid : (nx ny : ℤ) → ListForm
  operation : Kind → (numbers : List ℤ) → ListForm
  closing : ListForm

-- whether each word is a number
abbrev pub are_numbers : Words → Bool
are_numbers ws = list_all (λ w. is_some (number_of w)) ws

-- the numbers that words write
abbrev pub numbers_of : Words → List ℤ
numbers_of ws = map (λ w. unwrap_or (number_of w) (pos 0)) ws

-- so many numbers, or why the words are not
abbrev pub counted : ℕ → Words → Result (List ℤ) Cause
counted count ws =
    if not (length ws == count) then Err c.WordCount
    else if are_numbers ws then Ok (numbers_of ws)
    else Err c.NotNumber

-- what the words of a line after its first say, or why they are of no good form
abbrev pub opening_form : Words → Result ListForm Cause
opening_form ws = if is_one ws then Ok opening else Err c.NotHeader

abbrev pub grid_form : Words → Result ListForm Cause
grid_form (nx ∷ ny ∷ []) = ok_or (two_of grid (number_of nx) (number_of ny)) c.NotNumber
grid_form ws = Err c.WordCount

abbrev pub operation_form : Kind → Result (List ℤ) Cause → Result ListForm Cause
operation_form kind (Ok numbers) = Ok (operation kind numbers)
operation_form kind (Err cause) = Err cause

abbrev pub closing_form : Words → Result ListForm Cause
closing_form [] = Ok closing
closing_form ws = Err c.WordCount

-- what a line says, by what is expected, its first word and those after: the header, the grid, operations and the end
abbrev pub timely_form : Due → Keyword → Words → Result ListForm Cause
timely_form d.Header k.Pxlist ws = opening_form ws
timely_form d.Header keyword ws = Err c.NotHeader
timely_form d.Grid k.Grid ws = grid_form ws
timely_form d.Operation (k.Operation kind) ws = operation_form kind (counted (number_count (shape_of kind)) ws)
timely_form d.Operation k.End ws = closing_form ws
timely_form d.Nothing keyword ws = Err c.AfterEnd
timely_form due keyword ws = Err c.Unexpected

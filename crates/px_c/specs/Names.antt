-- The words of the numbers of causes and of limits. Clauses of public calls stand on them.
use Rattle.std.specs.Prelude.{◌≡◌, ℕ, ◌<◌, ◌≤◌, List, [], ◌∷◌, ◌++◌, drop, length, slice_get, unwrap_or}
use Rattle.px_show.specs.declared.fault.Cause.TheVariants as c
use Rattle.px_show.specs.declared.fault.LimitKind.TheVariants as k
use Rattle.px_listing.specs.declared.limit.ListKind.TheVariants as l
use Rattle.px_commands.specs.declared.refusal.Kind.TheVariants as any
use Rattle.px_commands.specs.Notes.{kind_word}
use Rattle.px_commands.specs.Words.{cause_word, list_word, scene_word}

-- the words of causes by their numbers, and no word at 0
abbrev pub cause_names : List (List ℕ)
cause_names =
    [] ∷ cause_word c.NotHeader ∷ cause_word c.Unexpected ∷ cause_word c.WordCount ∷ cause_word c.NotNumber
    ∷ cause_word c.BadName ∷ cause_word c.SecondName ∷ cause_word c.BadExpression ∷ cause_word c.UnknownName
    ∷ cause_word c.AfterEnd ∷ cause_word c.MissingEnd ∷ []

-- the words of limits by their numbers, those of scenes, of listings, of lights and of tiles, and no word at 0
abbrev pub kind_names : List (List ℕ)
kind_names =
    [] ∷ scene_word k.Text ∷ scene_word k.Picture ∷ scene_word k.Depth ∷ scene_word k.Colour ∷ scene_word k.Coefficient
    ∷ scene_word k.Solids ∷ scene_word k.Fronts ∷ scene_word k.Backs ∷ scene_word k.Sides ∷ scene_word k.Faces
    ∷ scene_word k.Leaves ∷ scene_word k.Nesting ∷ scene_word k.Fraction ∷ scene_word k.PixelMemory
    ∷ scene_word k.Products
    ∷ list_word l.Grid ∷ list_word l.Coefficient ∷ list_word l.Length ∷ list_word l.Place ∷ list_word l.Value
    ∷ list_word l.Overlap ∷ kind_word any.Lights ∷ kind_word any.Tiles ∷ []

-- the word of a number; a number that names nothing has none
abbrev pub word_of_number : List (List ℕ) → (number : ℕ) → List ℕ
word_of_number names number = unwrap_or (slice_get names number) []

-- a call answers the length of a word, which it wrote to the front of a buffer where it fits, and no part of it
-- where it does not
pub record IsWordWritten (word : List ℕ) (answer : ℕ) (before now : List ℕ) : Type 0 where
  pub count : answer ≡ length word
  pub fits : length word ≤ length before → now ≡ word ++ drop (length word) before
  pub short : length before < length word → now ≡ before

-- The packed micros of a stretch of clocks. Clauses of public calls stand on it.
use Rattle.std.specs.Prelude.{◌≡◌, ℕ, ◌+◌, ◌<◌, List, Some, length, get_or, slice_get}
use Rattle.px_listing.specs.Listings.{ListingView}
use Rattle.px_array.specs.declared.micro.Micro.{Micro}
use Rattle.px_state.specs.Courses.{broadcasts}
use Rattle.px_state.specs.Packing.{packed}

-- a word has the micro of a clock
pub record HasMicro (l : ListingView) (clock word : ℕ) : Type 0 where
  pub micro : Micro
  pub is : slice_get (broadcasts l) clock ≡ Some micro
  pub word_is : word ≡ packed micro

-- each word has the micro of its clock, from the first on
abbrev pub HasMicros : ListingView → (first : ℕ) → List ℕ → Type 0
HasMicros l first words = (j : ℕ) → j < length words → HasMicro l (first + j) (get_or words j 0)

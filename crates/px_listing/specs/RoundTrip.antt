-- Reading what was written. Clauses of public calls stand on it.
use Rattle.std.specs.Prelude.{◌≡◌, ℕ, ◌≤◌, All, List, None}
use Rattle.px_macro.specs.Macros.{IsLawful}
use Rattle.px_text.specs.Text.{worded}
use Rattle.px_tree.specs.Nodes.{IsGrid}
use Rattle.px_listing.specs.Listings.{ListingView, canonical_listing}
use Rattle.px_listing.specs.Reading.{listing_of, listing_refusal_of}

-- a text that is not refused for pixels of so many memory bits, and whose listing is this one
pub record IsReadAsListing (bits : ℕ) (text : List ℕ) (l : ListingView) : Type 0 where
  pub good : listing_refusal_of bits text ≡ None
  pub read : listing_of (worded text) ≡ l

-- the canonical text of a listing that such pixels can carry out is read as it
abbrev pub TextsAreReadBack : Type 0
TextsAreReadBack = (bits : ℕ) (l : ListingView) → bits ≤ 256 → IsGrid l.nx l.ny → All (λ m. IsLawful m bits) l.macros →
    IsReadAsListing bits (canonical_listing l) l

-- What holds of every listing. Clauses of public calls stand on it.
use Rattle.std.specs.Prelude.{◌≡◌, ℕ}
use Rattle.px_array.specs.Arrays.{HasGrid, State}
use Rattle.px_listing.specs.Listings.{ListingView}
use Rattle.px_listing.specs.Memories.{memory_text, played_text}
use Rattle.px_listing.specs.Played.{HasPlayed}

-- the lines of an array that has played a listing are those of what is played on zeros
abbrev pub MemoriesShowThePlayed : Type 0
MemoriesShowThePlayed = (bits : ℕ) (l : ListingView) (s : State) → HasGrid bits l.nx l.ny s → HasPlayed bits l s →
    memory_text bits s ≡ played_text bits l

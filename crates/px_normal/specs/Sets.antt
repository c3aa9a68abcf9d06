-- Sets of solids by their bits. Clauses of public calls stand on it.
use Rattle.std.specs.Prelude.{ℕ, ◌≡◌, ◌<◌, ◌/◌, ◌%◌, ◌^◌, Bool, true, ◌==◌, List, [], ◌∷◌, ◌++◌, filter}
use Rattle.std.specs.Prelude.{slice_index, slice_set, bit_or}
use Rattle.std.specs.Int.{bit_at}
use Prim.Native.Nat.{zero, suc}
use Rattle.px_normal.specs.declared.set.SolidSet.{SolidSet}

-- whether bit `solid mod 64` of word `solid div 64` is 1
abbrev pub has : SolidSet → ℕ → Bool
has set solid = bit_at (slice_index set.words (solid / 64)) (solid % 64) == 1

-- the set of no solid
abbrev pub empty : SolidSet
empty = record { words = 0 ∷ 0 ∷ 0 ∷ 0 ∷ [] }

-- the set of one solid
abbrev pub one : ℕ → SolidSet
one solid = record { words = slice_set (0 ∷ 0 ∷ 0 ∷ 0 ∷ []) (solid / 64) (2 ^ (solid % 64)) }

-- the bits of two sets in their words of one place
abbrev pub joined_word : SolidSet → SolidSet → ℕ → ℕ
joined_word a b place = bit_or (slice_index a.words place) (slice_index b.words place)

-- the solids that are in one set or the other
abbrev pub sets_joined : SolidSet → SolidSet → SolidSet
sets_joined a b = record {
  words = joined_word a b 0 ∷ joined_word a b 1 ∷ joined_word a b 2 ∷ joined_word a b 3 ∷ [];
}

-- the numbers below another, in their order
abbrev pub below : ℕ → List ℕ
below zero = []
below (suc n) = below n ++ n ∷ []

-- the solids of a set in their order
unfoldable pub solids : SolidSet → List ℕ
solids set = filter (has set) (below 256)

-- each solid of a set is one of so many
abbrev pub IsBelow : ℕ → SolidSet → Type 0
IsBelow count set = (solid : ℕ) → solid < 256 → has set solid ≡ true → solid < count

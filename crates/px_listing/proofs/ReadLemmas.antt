-- What a line more says, and what it keeps.
use Rattle.px_num.proofs.Basics.{◌≡◌, ℕ, ℤ, pos, ◌+◌, ◌≤◌, List, [], ◌∷◌, ◌++◌, length, Option, Some, None, OnOk}
use Rattle.px_num.proofs.Basics.{Result, Ok, Err, sym, subst, arith, length-append, ints}
use Rattle.px_listing.proofs.Words.{grid, grid_past, IsDraft, IsGrid, IsListingDraftOf, IsOpened, ListForm}
use Rattle.px_listing.proofs.Words.{listing_limit_of, Macro, negsuc, none_first, none_second, operation, past, size_of}
use Rattle.px_listing.proofs.Words.{Words}
use Rattle.px_listing.specs.Reading.{ListingDraft, extended, listing_taken}
use Rattle.px_listing.specs.Reading.{with_operation}
use Rattle.px_listing.proofs.AcceptedLemmas.{all_more, draft_more, kind_lawful}
use Rattle.px_listing.proofs.LimitLemmas.{within}
use Rattle.px_listing.specs.declared.limit.ListKind.TheVariants as kind

-- a grid within its limits
exponent : (z : ℤ) → past kind.Grid (pos 1) (pos 9) z ≡ None → (1 ≤ size_of z) × (size_of z ≤ 9)
exponent (pos n) e = grind (arith, within)
exponent (negsuc n) e = let is = within kind.Grid (pos 1) (pos 9) (negsuc n) e in absurd (omega (arith, ints, is.0))

grid_within : (nx ny : ℤ) → grid_past nx ny ≡ None → IsGrid (size_of nx) (size_of ny)
grid_within nx ny good = grind (arith, exponent, none_first, none_second)

one_longer : (o : Option Macro) (ops : List Macro) → length (with_operation o ops) ≤ length ops + 1
one_longer None ops = omega arith
one_longer (Some op) ops = omega (arith, length-append ops (op ∷ []))

-- a good line keeps a draft lawful
kept : (bits count : ℕ) (draft : ListingDraft) (form : ListForm) → listing_limit_of bits form ≡ None
    → IsOpened draft.due form → IsDraft bits count draft → IsDraft bits (count + 1) (extended draft form)
kept bits count draft form h p q = grind (arith, grid, operation, all_more, kind_lawful, one_longer)

pub kept_more : (bits count : ℕ) (draft new : ListingDraft) (form : ListForm) → listing_limit_of bits form ≡ None
    → IsOpened draft.due form → new ≡ extended draft form → IsDraft bits count draft → IsDraft bits (count + 1) new
kept_more bits count draft new form good opened is keeps =
    subst (IsDraft bits (count + 1)) (sym is) (kept bits count draft form good opened keeps)

pub read_next : {T E : Type 0} (r : Result T E) (bits : ℕ) (draft new : ListingDraft) (before : List Words) (l : Words)
    → (bits ≤ 256) × IsListingDraftOf bits draft before → OnOk r (new ≡ listing_taken draft l)
    → OnOk r (IsDraft bits (length before + 1) new)
    → OnOk r ((bits ≤ 256) × IsListingDraftOf bits new (before ++ l ∷ []))
read_next (Ok x) bits draft new before l (few, so) e keeps = grind (arith, draft_more, length-append)
read_next (Err f) bits draft new before l so e keeps = tt

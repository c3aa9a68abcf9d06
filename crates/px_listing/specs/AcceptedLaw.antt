-- The operations of a text that is accepted, and what no refusal is. Clauses of public calls stand on it.
use Rattle.std.specs.Prelude.{◌≡◌, ◌≢◌, ℕ, All, List, None, Some}
use Rattle.px_num.specs.Want.{want}
use Rattle.px_macro.specs.Macros.{IsLawful}
use Rattle.px_listing.specs.Reading.{listing_of, listing_refusal_of}
use Rattle.px_show.specs.declared.fault.TextFault.TheVariants as fault
use Rattle.px_text.specs.Text.{worded}

-- pixels of as many bits as a text is accepted for can carry each of its operations out
abbrev pub AcceptedListingIsLawful : Type 0
AcceptedListingIsLawful = (bits : ℕ) (text : List ℕ) → listing_refusal_of bits text ≡ None →
    All (λ m. IsLawful m bits) (listing_of (worded text)).macros

-- no text is refused because memory runs out, which is a call's own fault
abbrev pub MemoryIsNoRefusal : Type 0
MemoryIsNoRefusal = (bits : ℕ) (text : List ℕ) → listing_refusal_of bits text ≢ Some (fault.Memory want)

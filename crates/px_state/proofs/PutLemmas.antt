-- Micros that are written operation by operation.
use Rattle.px_state.proofs.Cited.{ap, arith, broadcasts, cases_lt, cycles, get_or, HasMicro, inl, inr, length, List}
use Rattle.px_state.proofs.Cited.{ListingView, Macro, micro_at, slice_get, Some, start_in_listing, ℕ, ◌+◌, ◌-◌, ◌<◌}
use Rattle.px_state.proofs.Cited.{◌∙◌, ◌≡◌, ◌≤◌}
use Rattle.px_state.specs.Packing.{packed}
use Rattle.px_state.proofs.CourseLemmas.{broadcast_here}

-- the words of the clocks before one have their micros
abbrev pub IsPutTo : ListingView → (first : ℕ) → (clock : ℕ) → List ℕ → Type 0
IsPutTo l first clock words = (j : ℕ) → j < length words → first + j < clock → HasMicro l (first + j) (get_or words j 0)

-- those of one operation more
pub put_next : (l : ListingView) (first k : ℕ) (m : Macro) (start end : ℕ) (old new : List ℕ)
    → slice_get l.macros k ≡ Some m
    → start ≡ start_in_listing l k → end ≡ start + cycles m l.nx l.ny → length new ≡ length old
    → IsPutTo l first start old
    → ((j : ℕ) → j < length old → start ≤ first + j → first + j < start + cycles m l.nx l.ny
    → get_or new j 0 ≡ packed (micro_at m l.nx l.ny (first + j - start)))
    → ((j : ℕ) → first + j < start → get_or new j 0 ≡ get_or old j 0) → IsPutTo l first end new
put_next l first k m start end old new here begins ends same before put kept j within low =
    elim (cases_lt (first + j) start) [
      | inl early ↦
          let is = before j (omega (arith, within, same)) early in
          record { micro = is.micro; is = is.is; word_is = kept j early ∙ is.word_is }
      | inr late ↦
          let cycle = first + j - start in
          let inside : cycle < cycles m l.nx l.ny = omega (arith, late, low, ends) in
          let clock : first + j ≡ start_in_listing l k + cycle = omega (arith, late, begins) in
          record {
            micro = micro_at m l.nx l.ny cycle;
            is = ap (slice_get (broadcasts l)) clock ∙ broadcast_here l k cycle m here inside;
            word_is = put j (omega (arith, within, same)) late (omega (arith, low, ends));
          }
    ]

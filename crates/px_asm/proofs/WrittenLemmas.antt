-- Fields that are written bit by bit.
use Rattle.px_num.proofs.Basics.{◌≡◌, ◌≢◌, ℕ, suc, ◌+◌, ◌-◌, ◌<◌, ◌≤◌, Bool, true, false, List, length, slice_set}
use Rattle.px_num.proofs.Basics.{if◌then◌else◌, ◌⊎◌, inl, inr, refl, sym, ap, ◌∙◌, arith, get_or-set_other}
use Rattle.px_num.proofs.Basics.{get_or-set_same, cases_lt, nat_tests, get_or_default, same_lists}
use Rattle.px_asm.proofs.Words.{bit_at, Field, is_in, is_tabulate, length-stored, nat_bit, with_number}

-- n bits from a place on are those of v, where the pixel is enabled, and the others as before
pub record IsWritten (at n : ℕ) (v : ℕ → Bool) (enable : Bool) (old new : List Bool) : Type 0 where
  pub size : length new ≡ length old
  pub field : (t : ℕ) → t < n → bit_at new (at + t) ≡ (if enable then v t else bit_at old (at + t))
  pub others : (i : ℕ) → (i < at) ⊎ (at + n ≤ i) → bit_at new i ≡ bit_at old i

pub none_written : (at : ℕ) (v : ℕ → Bool) (enable : Bool) (memory : List Bool) → IsWritten at 0 v enable memory memory
none_written at v enable memory = record { size = refl; field = λ t low. absurd (omega arith); others = λ i out. refl }

written_bit : (enable b : Bool) (memory : List Bool) (k : ℕ) → k < length memory
    → bit_at (if enable then slice_set memory k b else memory) k ≡ (if enable then b else bit_at memory k)
written_bit true b memory k low = get_or-set_same memory k b false low
written_bit false b memory k low = refl

pub other_bit : (enable b : Bool) (memory : List Bool) (k i : ℕ) → i ≢ k
    → bit_at (if enable then slice_set memory k b else memory) i ≡ bit_at memory i
other_bit true b memory k i differs = get_or-set_other memory k i b false differs
other_bit false b memory k i differs = refl

outside : (at n i : ℕ) → (i < at) ⊎ (at + suc n ≤ i) → (i < at) ⊎ (at + n ≤ i)
outside at n i (inl low) = inl low
outside at n i (inr high) = inr (omega arith)

not_there : (at n i : ℕ) → (i < at) ⊎ (at + suc n ≤ i) → i ≢ at + n
not_there at n i (inl low) = omega arith
not_there at n i (inr high) = omega arith

-- one bit more
pub one_written : (at n : ℕ) (v : ℕ → Bool) (enable : Bool) (old new : List Bool) → at + n < length old
    → IsWritten at n v enable old new
    → IsWritten at (suc n) v enable old (if enable then slice_set new (at + n) (v n) else new)
one_written at n v enable old new room h = grind (arith, length-stored, other_bit, written_bit, not_there, outside)

is_in_true : (f : Field) (k : ℕ) → f.at ≤ k → k < f.at + f.len → is_in f k ≡ true
is_in_true f k low high = grind (arith, nat_tests)

is_in_false : (f : Field) (k : ℕ) → (k < f.at) ⊎ (f.at + f.len ≤ k) → is_in f k ≡ false
is_in_false f k (inl low) = grind (arith, nat_tests)
is_in_false f k (inr high) = grind (arith, nat_tests)

enabled_bit : (f : Field) (number : ℕ) (v : ℕ → Bool) (old new : List Bool)
    → ((t : ℕ) → t < f.len → v t ≡ nat_bit number t) → IsWritten f.at f.len v true old new → (k : ℕ)
    → bit_at new k ≡ (if is_in f k then nat_bit number (k - f.at) else bit_at old k)
enabled_bit f number v old new bits h k = grind (arith, cases_lt, is_in_false, is_in_true)

disabled_bit : (at n : ℕ) (v : ℕ → Bool) (old new : List Bool) → IsWritten at n v false old new → (k : ℕ)
    → bit_at new k ≡ bit_at old k
disabled_bit at n v old new h k = elim (cases_lt k at) [
  | inl low ↦ h.others k (inl low)
  | inr from ↦ elim (cases_lt k (at + n)) [
    | inl inside ↦
        let t : at + (k - at) ≡ k = omega arith in
        ap (bit_at new) (sym t) ∙ (h.field (k - at) (omega arith) ∙ ap (bit_at old) t)
    | inr past ↦ h.others k (inr past)
  ]
]

-- a field that was written whole has taken the number of these bits
pub whole_written : (f : Field) (number : ℕ) (v : ℕ → Bool) (enable : Bool) (old new : List Bool)
    → ((t : ℕ) → t < f.len → v t ≡ nat_bit number t)
    → IsWritten f.at f.len v enable old new → new ≡ (if enable then with_number f number old else old)
whole_written f number v true old new bits h =
    is_tabulate new (length old) (λ k. if is_in f k then nat_bit number (k - f.at) else bit_at old k) false h.size
    (λ k low. enabled_bit f number v old new bits h k)
whole_written f number v false old new bits h =
    same_lists new old h.size (λ k d low.
    let inside : k < length old = omega (arith, h.size) in
    get_or_default new k d false low ∙ (disabled_bit f.at f.len v old new h k
    ∙ sym (get_or_default old k d false inside)))

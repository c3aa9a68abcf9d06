-- Numbers by their bits, and fields that take them.
use Rattle.px_num.proofs.Basics.{◌≡◌, ◌≢◌, ℕ, zero, suc, ◌+◌, ◌-◌, ◌*◌, ◌%◌, ◌^◌, ◌<◌, ◌≤◌, ◌==◌, Bool, true, false}
use Rattle.px_num.proofs.Basics.{if◌then◌else◌, ◌⊎◌, inl, inr, refl, sym, ◌∙◌, arith, get_or-set_other, cases_lt}
use Rattle.px_num.proofs.Basics.{nat_tests, pow-add, bit_at_cat_high, bit_at_cat_low, mod-mul}
use Rattle.std.proofs.Math.Nat.{mod-one}
use Rattle.px_num.proofs.AdderLaws.{number}
use Rattle.px_num.proofs.BitLaws.{pow_above}
use Rattle.px_num.specs.Bits.{bit_at, nat_bit}
use Rattle.px_num.proofs.ListLaws.{get_or-tabulate}
use Rattle.px_num.proofs.TruthLaws.{double_pow}
use Rattle.px_macro.specs.FieldLaws.{BitBesideIsKept, BitsOfNumber, NumberBesideIsKept, NumberIsBelow, NumberIsKept}
use Rattle.px_macro.specs.FieldLaws.{NumberIsRead, NumberOfParts, PlacesAreWritten}
use Rattle.px_macro.specs.Fields.{is_in, number_from_bits, with_number}
use Rattle.px_macro.specs.declared.field.Field.{Field}

pub number_same : (f g : ℕ → Bool) (n : ℕ) → ((t : ℕ) → t < n → f t ≡ g t) → number_from_bits f n ≡ number_from_bits g n
number_same f g zero same = refl
number_same f g (suc n) same = rw (number_same f g n (λ t low. same t (omega arith)), same n (omega arith)) refl

bit_below : (b : Bool) (p : ℕ) → (if b then p else 0) ≤ p
bit_below b p = grind arith

pub number_below : (bit : ℕ → Bool) (n : ℕ) → number_from_bits bit n < 2 ^ n
number_below bit zero = omega arith
number_below bit (suc n) = omega (arith, number_below bit n, bit_below (bit n) (2 ^ n), double_pow n)

if_times : (b : Bool) (p q : ℕ) → (if b then p * q else 0) ≡ p * (if b then q else 0)
if_times b p q = grind arith

number_of_parts : (bit : ℕ → Bool) (low high : ℕ) → number_from_bits bit (low + high) ≡ number_from_bits bit low + 2 ^
    low
    * number_from_bits (λ t. bit (low + t)) high
number_of_parts bit low zero = let e : low + 0 ≡ low = omega arith in rw e (omega arith)
number_of_parts bit low (suc high) =
    let e : low + suc high ≡ suc (low + high) = omega arith in
    let top : (if bit (low + high) then 2 ^ (low + high) else 0) ≡ 2 ^ low
    * (if bit (low + high) then 2 ^ high else 0) =
    rw (pow-add 2 low high) (if_times (bit (low + high)) (2 ^ low) (2 ^ high)) in
    rw e (omega (arith, number_of_parts bit low high, top))

-- a number by its highest bit and the rest
high_bit : (b : Bool) (r p : ℕ) → r + (if b then p else 0) ≡ number b * p + r
high_bit b r p = grind arith

only_bit : (b : Bool) → nat_bit (number b) 0 ≡ b
only_bit b = grind arith

-- a number has the bits that it was made of
pub number_bit : (bit : ℕ → Bool) (n t : ℕ) → t < n → nat_bit (number_from_bits bit n) t ≡ bit t
number_bit bit zero t low = absurd (omega arith)
number_bit bit (suc n) t low =
    rw (high_bit (bit n) (number_from_bits bit n) (2 ^ n)) (elim (cases_lt t n) [
      | inl below ↦ grind (arith, bit_at_cat_low, number, number_bit bit n t below)
      | inr past ↦
          grind (arith, bit_at_cat_high, number, number_below, only_bit)
    ])

bit_times : (b p : ℕ) → b < 2 → (if b == 1 then p else 0) ≡ b * p
bit_times b p h = grind arith

-- the number of the bits of a number
number_of_bits : (m n : ℕ) → number_from_bits (nat_bit m) n ≡ m % 2 ^ n
number_of_bits m zero = sym (mod-one m)
number_of_bits m (suc n) = grind (arith, mod-mul, pow_above, double_pow, bit_times, number_of_bits m n)

pub bits_of_number : BitsOfNumber
bits_of_number field memory t low = number_bit (λ i. bit_at memory (field.at + i)) field.len t low

pub number_is_below : NumberIsBelow
number_is_below field memory = number_below (λ t. bit_at memory (field.at + t)) field.len

pub places_are_written : PlacesAreWritten
places_are_written field number memory place inside = grind (arith, number, get_or-tabulate)

is_in_field : (field : Field) (t : ℕ) → t < field.len → is_in field (field.at + t) ≡ true
is_in_field field t low = grind (arith, nat_tests)

is_in_other : (field other : Field) (t : ℕ) → t < other.len → (field.at + field.len ≤ other.at)
    ⊎ (other.at + other.len ≤ field.at) → is_in field (other.at + t) ≡ false
is_in_other field other t low is = grind arith

pub number_is_read : NumberIsRead
number_is_read field number memory within =
    number_same (λ t. bit_at (with_number field number memory) (field.at + t)) (nat_bit number) field.len (λ t low.
    let back : field.at + t - field.at ≡ t = omega arith in
    places_are_written field number memory (field.at + t) (omega arith)
    ∙ rw (is_in_field field t low, back) refl)
    ∙ number_of_bits number field.len

pub number_is_kept : NumberIsKept
number_is_kept field other number memory within apart =
    number_same (λ t. bit_at (with_number field number memory) (other.at + t)) (λ t. bit_at memory (other.at + t))
    other.len (λ t low.
    places_are_written field number memory (other.at + t) (omega arith)
    ∙ rw (is_in_other field other t low apart) refl)

pub bit_beside_is_kept : BitBesideIsKept
bit_beside_is_kept field number memory place inside beside = grind (arith, places_are_written)

beside_each : (field : Field) (place t : ℕ) → t < field.len → is_in field place ≡ false → field.at + t ≢ place
beside_each field place t low beside = grind (arith, nat_tests)

pub number_beside_is_kept : NumberBesideIsKept
number_beside_is_kept field memory place v beside = grind (arith, number_same, get_or-set_other, beside_each)

pub number_of_two_parts : NumberOfParts
number_of_two_parts at low high memory = grind (arith, number_of_parts, number_same)

-- What a contract sees of the numbers in fields of a memory. Clauses of public calls stand on it.
use Rattle.std.specs.Prelude.{ℕ, zero, suc, ◌+◌, ◌-◌, ◌^◌, Bool, ◌&&◌, if◌then◌else◌, nat_le, nat_lt, List, length}
use Rattle.px_num.specs.Bits.{bit_at, nat_bit}
use Rattle.px_num.specs.Lists.{tabulate}
use Rattle.px_macro.specs.declared.field.Field.{Field}

-- the number of so many bits, the lowest first
abbrev pub number_from_bits : (bit : ℕ → Bool) → (count : ℕ) → ℕ
number_from_bits bit zero = 0
number_from_bits bit (suc n) = number_from_bits bit n + (if bit n then 2 ^ n else 0)

-- the number in a field
abbrev pub number_in : Field → List Bool → ℕ
number_in field memory = number_from_bits (λ t. bit_at memory (field.at + t)) field.len

-- the place is one of the field's
abbrev pub is_in : Field → (place : ℕ) → Bool
is_in field place = nat_le field.at place && nat_lt place (field.at + field.len)

-- the memory with the bits of a number in a field, and every other bit as before
abbrev pub with_number : Field → ℕ → List Bool → List Bool
with_number field number memory =
    tabulate (length memory) (λ place.
    if is_in field place then nat_bit number (place - field.at) else bit_at memory place)

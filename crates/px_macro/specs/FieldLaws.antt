-- Laws of numbers in fields. Clauses of public calls stand on it.
use Rattle.std.specs.Prelude.{◌≡◌, ℕ, ◌+◌, ◌-◌, ◌*◌, ◌%◌, ◌^◌, ◌<◌, ◌≤◌, Bool, false, if◌then◌else◌, List}
use Rattle.std.specs.Prelude.{length, slice_set}
use Rattle.px_num.specs.Bits.{bit_at, nat_bit}
use Rattle.px_macro.specs.Fields.{is_in, number_in, with_number}
use Rattle.px_macro.specs.Macros.{AreApart}
use Rattle.px_macro.specs.declared.field.Field.{Field}

-- the bits of the number in a field are those of the field
abbrev pub BitsOfNumber : Type 0
BitsOfNumber = (field : Field) (memory : List Bool) (t : ℕ) → t < field.len →
    nat_bit (number_in field memory) t ≡ bit_at memory (field.at + t)

-- the number in a field has no more bits than the field
abbrev pub NumberIsBelow : Type 0
NumberIsBelow = (field : Field) (memory : List Bool) → number_in field memory < 2 ^ field.len

-- each place of a memory in which a field has taken a number
abbrev pub PlacesAreWritten : Type 0
PlacesAreWritten = (field : Field) (number : ℕ) (memory : List Bool) (place : ℕ) → place < length memory →
    bit_at (with_number field number memory) place
    ≡ (if is_in field place then nat_bit number (place - field.at) else bit_at memory place)

-- a field that has taken a number has it, but for the bits that it has no room for
abbrev pub NumberIsRead : Type 0
NumberIsRead = (field : Field) (number : ℕ) (memory : List Bool) → field.at + field.len ≤ length memory →
    number_in field (with_number field number memory) ≡ number % 2 ^ field.len

-- a field with no common bit keeps its number
abbrev pub NumberIsKept : Type 0
NumberIsKept = (field other : Field) (number : ℕ) (memory : List Bool) → other.at + other.len ≤ length memory →
    AreApart field other → number_in other (with_number field number memory) ≡ number_in other memory

-- a place that is not in the field keeps its bit
abbrev pub BitBesideIsKept : Type 0
BitBesideIsKept = (field : Field) (number : ℕ) (memory : List Bool) (place : ℕ) → place < length memory →
    is_in field place ≡ false → bit_at (with_number field number memory) place ≡ bit_at memory place

-- a field keeps its number where a bit that is not in it is written
abbrev pub NumberBesideIsKept : Type 0
NumberBesideIsKept = (field : Field) (memory : List Bool) (place : ℕ) (v : Bool) → is_in field place ≡ false →
    number_in field (slice_set memory place v) ≡ number_in field memory

-- the number in a field by those in its low and its high part
abbrev pub NumberOfParts : Type 0
NumberOfParts = (at low high : ℕ) (memory : List Bool) →
    number_in (record { at = at; len = low + high }) memory
    ≡ number_in (record { at = at; len = low }) memory + 2 ^ low * number_in (record { at = at + low; len = high })
    memory

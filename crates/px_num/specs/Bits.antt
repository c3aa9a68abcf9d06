-- What a contract sees of single bits: those of whole numbers and of memories, and the sums of bits. Clauses of
-- public calls stand on it.
use Rattle.std.specs.Prelude.{ℕ, zero, suc, ◌-◌, ◌/◌, ◌%◌, ◌^◌, ◌==◌, ℤ, pos, negsuc, Bool, true, false, not}
use Rattle.std.specs.Prelude.{◌&&◌, ◌||◌, List, slice_index_or}

-- bit t of a number
abbrev pub nat_bit : ℕ → ℕ → Bool
nat_bit n t = n / 2 ^ t % 2 == 1

-- bit t of the two's complement form of an integer; `negsuc n` is -(n + 1), whose bits are those of n, turned over
abbrev pub bit_of : ℤ → ℕ → Bool
bit_of (pos n) t = nat_bit n t
bit_of (negsuc n) t = not (nat_bit n t)

-- an integer modulo 2^width, a number of so many bits
abbrev pub modulo : ℤ → ℕ → ℕ
modulo (pos n) width = n % 2 ^ width
modulo (negsuc n) width = 2 ^ width - 1 - n % 2 ^ width

-- the bit of a memory at a place below its length
abbrev pub bit_at : List Bool → ℕ → Bool
bit_at memory at = slice_index_or memory at false

-- exactly one of two
abbrev pub xor : Bool → Bool → Bool
xor false b = b
xor true b = not b

-- at least two of three
abbrev pub majority : Bool → Bool → Bool → Bool
majority a b c = (a && b) || ((a && c) || (b && c))

-- the carry into bit t of the sum of two integers, where `first` comes into bit 0
abbrev pub carry_from : (first : Bool) → ℤ → ℤ → (t : ℕ) → Bool
carry_from first u v zero = first
carry_from first u v (suc t) = majority (bit_of u t) (bit_of v t) (carry_from first u v t)

-- What a contract sees of a word of an array: one memory bit of 64 pixels. Clauses of public calls stand on it.
use Rattle.std.specs.Prelude.{◌≡◌, ℕ, ◌+◌, ◌*◌, ◌^◌, ◌<◌, Bool, false, if◌then◌else◌, nat_lt}
use Rattle.px_array.specs.Arrays.{State, pixel_at}
use Rattle.px_num.specs.Bits.{bit_at, nat_bit}

-- memory bit `at` of each pixel of an array, by their places, and 0 past the last
abbrev pub memory_bit : State → (at p : ℕ) → Bool
memory_bit s at p = if nat_lt p (2 ^ (s.tree.nx + s.tree.ny)) then bit_at (pixel_at s p).memory at else false

-- bit i of a word is memory bit `at` of the pixel at the place 64 * w + i
abbrev pub IsMemoryWord : State → (at w word : ℕ) → Type 0
IsMemoryWord s at w word = (i : ℕ) → i < 64 → nat_bit word i ≡ memory_bit s at (64 * w + i)

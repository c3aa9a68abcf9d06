-- Single words: the bits of what the calls on rows make of them. Only proofs and private functions stand on it.
use Rattle.std.specs.Prelude.{◌≡◌, ℕ, ◌+◌, ◌<◌, ◌≤◌, cond, List, slice_index}
use Rattle.px_num.specs.Bits.{majority, nat_bit, xor}

-- the sum of value, target and carry where the mask is 1, and otherwise the target
pub record IsAdded (result target carry value mask : ℕ) : Type 0 where
  pub each : (i : ℕ) → i < 64
      → nat_bit result i ≡ cond (nat_bit mask i) (xor (nat_bit value i) (xor (nat_bit target i) (nat_bit carry i)))
      (nat_bit target i)

pub record IsCarried (result target carry value : ℕ) : Type 0 where
  pub each : (i : ℕ) → i < 64 → nat_bit result i ≡ majority (nat_bit value i) (nat_bit target i) (nat_bit carry i)

-- the sum of three bits
pub record IsSummed (result a b c : ℕ) : Type 0 where
  pub each : (i : ℕ) → i < 64 → nat_bit result i ≡ xor (nat_bit a i) (xor (nat_bit b i) (nat_bit c i))

-- the eight words of a row from `at` on
pub record IsBlock (at : ℕ) (row words : List ℕ) : Type 0 where
  pub each : (i : ℕ) → i < 8 → slice_index words i ≡ slice_index row (at + i)

-- the eight words of a row from `at` on became what is said of each by its place, and the others are as they were
pub record IsWritten (P : ℕ → ℕ → Type 0) (at : ℕ) (old new : List ℕ) : Type 0 where
  pub inside : (k : ℕ) → at ≤ k → k < at + 8 → P k (slice_index new k)
  pub before : (k : ℕ) → k < at → slice_index new k ≡ slice_index old k
  pub after : (k : ℕ) → at + 8 ≤ k → slice_index new k ≡ slice_index old k

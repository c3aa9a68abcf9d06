-- Blocks of eight words, a word of each bit at a time. Only proofs and private functions stand on it.
use Rattle.std.specs.Prelude.{◌≡◌, ◌≢◌, ℕ, ◌<◌, ℤ, List, [], length, slice_index, slice_index_or}
use Rattle.px_num.specs.Bits.{bit_of, nat_bit}

-- word k of each bit has the lowest bits of the numbers v of its lanes, and the other words are as they were
pub record IsPut (k : ℕ) (v : ℕ → ℤ) (old new : List (List ℕ)) : Type 0 where
  pub here : (t j : ℕ) → t < length old → j < 64 → nat_bit (slice_index (slice_index_or new t []) k) j ≡ bit_of (v j) t
  pub beside : (t i : ℕ) → t < length old → i ≢ k → slice_index (slice_index_or new t []) i
      ≡ slice_index (slice_index_or old t []) i

-- A bit that is set.
use Rattle.px_num.proofs.Basics.{◌≡◌, ◌≢◌, ℕ, ◌*◌, ◌%◌, ◌^◌, ◌<◌, true, eqb, ap, w64, bit_or, bit_at_set_same}
use Rattle.px_num.proofs.Basics.{bit_at_set_other}
use Rattle.px_num.specs.Bits.{nat_bit}

pub set_same : (n k : ℕ) → k < 64 → nat_bit (bit_or n (1 * 2 ^ k % 2 ^ 64)) k ≡ true
set_same n k h = ap (λ b. eqb b 1) (bit_at_set_same w64 n k h)

pub set_other : (n k i : ℕ) → k < 64 → i ≢ k → nat_bit (bit_or n (1 * 2 ^ k % 2 ^ 64)) i ≡ nat_bit n i
set_other n k i h ne = ap (λ b. eqb b 1) (bit_at_set_other w64 n k h i ne)

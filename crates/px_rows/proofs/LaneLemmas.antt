-- Words as numbers in lanes.
use Rattle.px_num.proofs.Basics.{arith, ◌≡◌, ℕ, ℤ, pos, ◌+ℤ◌, Bool, true, false, ◌&&◌, if◌then◌else◌, refl, sym}
use Rattle.px_num.proofs.Basics.{bit_xor}
use Rattle.px_rows.proofs.LaneWords.{xor_at, bit_of, bit_of_zero, carry_from, nat_bit}
use Rattle.px_num.proofs.AdderLaws.{sum_bit}

-- the bits of what is added in a lane
pub addend_bit : (m : Bool) (k : ℤ) (t : ℕ) → (m && bit_of k t) ≡ bit_of (if m then k else pos 0) t
addend_bit true k t = refl
addend_bit false k t = sym (bit_of_zero t)

-- one more bit of the sum
pub sum_in_lane : (word addend carry j t : ℕ) (u v : ℤ) → nat_bit word j ≡ bit_of u t → nat_bit addend j ≡ bit_of v t
    → nat_bit carry j ≡ carry_from false u v t → nat_bit (bit_xor (bit_xor word addend) carry) j ≡ bit_of (u +ℤ v) t
sum_in_lane word addend carry j t u v first second held = grind (arith, xor_at, bit_xor, sum_bit)

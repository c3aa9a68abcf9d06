-- Where a value that grows by a slope from pixel to pixel has another sign than at the first.
use Rattle.px_num.proofs.Basics.{◌≡◌, ℕ, ◌+◌, ◌/◌, ◌<◌, ℤ, pos, negsuc, ◌+ℤ◌, ◌*ℤ◌, ◌≤ℤ◌}
use Rattle.px_num.proofs.Basics.{◌<ℤ◌, nat_lt, arith, cases_lt, ints, is_negative, lt_z}
use Rattle.std.proofs.Common.{nat_abs}
use Rattle.std.proofs.lemmas.Nat.{div_below, le-div}
use Rattle.std.specs.Int.Signed.{le_z}

-- as many multiples of a number are at most so great
multiples : (s j most : ℕ) → 0 < s → nat_lt j (most / s + 1) ≡ le_z (pos s *ℤ pos j) (pos most)
multiples s j most some = grind (arith, cases_lt, div_below, le-div)

pub steps_are : (most slope : ℤ) (j : ℕ) → pos 0 ≤ℤ most → pos 0 <ℤ slope
    → nat_lt j (nat_abs most / nat_abs slope + 1) ≡ le_z (slope *ℤ pos j) most
steps_are (pos m) (pos s) j some rising = multiples s j m (omega (arith, ints, rising))
steps_are (pos m) (negsuc s) j some rising = absurd (omega (arith, ints, rising))
steps_are (negsuc m) slope j some rising = absurd (omega (arith, ints, some))

pub of_sum : (offset base sum : ℤ) → sum ≡ offset +ℤ base → lt_z sum (pos 0) ≡ is_negative (offset +ℤ base)
of_sum offset base sum is = rw is (grind (arith, ints))

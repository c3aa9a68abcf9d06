-- The exponents of a grid: the least power of 2 for a size. Upper crates cite `exponent_is` and `exponent_between`.
use Rattle.px_num.proofs.Basics.{◌≡◌, ℕ, suc, zero, ◌+◌, ◌^◌, ◌≤◌, Bool, true, false, if◌then◌else◌, nat_le, refl}
use Rattle.px_num.proofs.Basics.{arith, nat_tests}
use Rattle.px_model.specs.Scenes.{IsGridExponent}
use Rattle.px_model.specs.Grids.{exponent_from, exponent_of}

-- no exponent below `from` is enough, and the last one is
exponent_found : (size from count : ℕ) → 1 ≤ from → size ≤ 2 ^ (from + count) →
    ((m : ℕ) → 1 ≤ m → size ≤ 2 ^ m → from ≤ m) → IsGridExponent size (exponent_from size from count)
exponent_found size from zero some enough least = grind (arith, zero)
exponent_found size from (suc count) some enough least =
    by_test (nat_le size (2 ^ from)) refl (exponent_found size (from + 1) count (omega arith) shifted) where
      shifted : size ≤ 2 ^ (from + 1 + count)
      shifted = let same : from + 1 + count ≡ from + suc count = omega arith in rw same enough

      later : nat_le size (2 ^ from) ≡ false → (m : ℕ) → 1 ≤ m → size ≤ 2 ^ m → from + 1 ≤ m
      later above m positive fits = grind arith

      by_test : (b : Bool) → nat_le size (2 ^ from) ≡ b
          → (((m : ℕ) → 1 ≤ m → size ≤ 2 ^ m → from + 1 ≤ m)
          → IsGridExponent size (exponent_from size (from + 1) count))
          → IsGridExponent size (if b then from else exponent_from size (from + 1) count)
      by_test true enough_here rest = record { positive = some; enough = grind (arith, nat_tests); least = least }
      by_test false above rest = rest (later above)

pub exponent_is : (size : ℕ) → size ≤ 512 → IsGridExponent size (exponent_of size)
unfolding exponent_of
exponent_is size few = exponent_found size 1 8 (omega arith) few (λ m positive fits. positive)

pub exponent_between : (size : ℕ) → size ≤ 512 → (1 ≤ exponent_of size) × (exponent_of size ≤ 9)
exponent_between size few =
    let is = exponent_is size few in (is.positive, is.least 9 (omega arith) few)

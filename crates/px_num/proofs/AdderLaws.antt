-- Laws of sums of integers, bit by bit from the lowest.
use Rattle.px_num.proofs.Basics.{◌≡◌, ℕ, zero, suc, ◌+◌, ◌-◌, ◌*◌, ◌/◌, ◌%◌, ◌^◌, ◌<◌, ◌==◌, ℤ, pos, negsuc, ◌+ℤ◌, Bool}
use Rattle.px_num.proofs.Basics.{true, false, nat_le, not, refl, ap, ◌∙◌, arith, ints, nat_tests, bit_at-suc}
use Rattle.px_num.proofs.Basics.{mod-pow-add}
use Rattle.px_num.proofs.BitLaws.{modulo_below}
use Rattle.px_num.specs.Bits.{bit_of, carry_from, majority, modulo, xor}
use Rattle.px_num.proofs.TruthLaws.{double_pow}

-- a bit as a number
abbrev pub number : Bool → ℕ
number false = 0
number true = 1

-- half of an integer, rounded down
abbrev pub half : ℤ → ℤ
half (pos n) = pos (n / 2)
half (negsuc n) = negsuc (n / 2)

number_test : (m : ℕ) → m < 2 → number (m == 1) ≡ m
number_test m below = grind (arith, nat_tests)

number_turned : (b : Bool) → number (not b) + number b ≡ 1
number_turned true = refl
number_turned false = refl

-- an integer by its half and its lowest bit
pub whole : (z : ℤ) → z ≡ (half z +ℤ half z) +ℤ pos (number (bit_of z 0))
whole (pos n) = grind (arith, number_test)
whole (negsuc n) = grind (arith, number_test, number_turned)

number_below : (b : Bool) → number b < 2
number_below true = omega arith
number_below false = omega arith

same_bit : (p q : Bool) → number p ≡ number q → p ≡ q
same_bit true true e = refl
same_bit false false e = refl
same_bit true false e = absurd (omega arith)
same_bit false true e = absurd (omega arith)

lowest_number : (n : ℕ) → number (bit_of (pos n) 0) ≡ n % 2
lowest_number n = grind (arith, number_test)

-- a rest by the rest of the half
rest_half : (n width : ℕ) → n % 2 ^ suc width ≡ 2 * (n / 2 % 2 ^ width) + n % 2
rest_half n width =
    let next : suc width ≡ width + 1 = omega arith in
    ap (λ e. n % 2 ^ e) next ∙ (mod-pow-add n width 1 ∙ omega arith)

-- the half and the lowest bit are the only ones
pub half_is : (z h : ℤ) (b : Bool) → z ≡ (h +ℤ h) +ℤ pos (number b) → half z ≡ h
half_is z h b e = omega (arith, ints, e, whole z, number_below b, number_below (bit_of z 0))

pub lowest_is : (z h : ℤ) (b : Bool) → z ≡ (h +ℤ h) +ℤ pos (number b) → bit_of z 0 ≡ b
lowest_is z h b e = same_bit (bit_of z 0) b (omega (arith, ints, e, whole z, number_below b, number_below (bit_of z 0)))

pub bit_of-half : (z : ℤ) (t : ℕ) → bit_of z (suc t) ≡ bit_of (half z) t
bit_of-half (pos n) t = ap (λ m. m == 1) (bit_at-suc n t)
bit_of-half (negsuc n) t = ap (λ m. not (m == 1)) (bit_at-suc n t)

-- three bits
add_bits : (p q r : Bool) → number p + number q + number r ≡ 2 * number (majority p q r) + number (xor p (xor q r))
add_bits true true true = refl
add_bits true true false = refl
add_bits true false true = refl
add_bits true false false = refl
add_bits false true true = refl
add_bits false true false = refl
add_bits false false true = refl
add_bits false false false = refl

pub carry_from-half : (first : Bool) (u v : ℤ) (t : ℕ) → carry_from first u v (suc t)
    ≡ carry_from (majority (bit_of u 0) (bit_of v 0) first) (half u) (half v) t
carry_from-half first u v zero = refl
carry_from-half first u v (suc t) = rw (bit_of-half u t, bit_of-half v t, carry_from-half first u v t) refl

-- a bit of a sum
pub bit_of-sum : (first : Bool) (u v z : ℤ) (t : ℕ) → z ≡ (u +ℤ v) +ℤ pos (number first)
    → bit_of z t ≡ xor (bit_of u t) (xor (bit_of v t) (carry_from first u v t))
bit_of-sum first u v z zero e =
    let carried = majority (bit_of u 0) (bit_of v 0) first in
    let bits = add_bits (bit_of u 0) (bit_of v 0) first in
    let rest = (half u +ℤ half v) +ℤ pos (number carried) in
    lowest_is z rest (xor (bit_of u 0) (xor (bit_of v 0) first)) (omega (arith, ints, e, whole u, whole v, bits))
bit_of-sum first u v z (suc t) e =
    let carried = majority (bit_of u 0) (bit_of v 0) first in
    let bits = add_bits (bit_of u 0) (bit_of v 0) first in
    let rest = (half u +ℤ half v) +ℤ pos (number carried) in
    let high = half_is z rest (xor (bit_of u 0) (xor (bit_of v 0) first))
    (omega (arith, ints, e, whole u, whole v, bits)) in
    grind (arith, bit_of-half, carry_from-half, bit_of-sum carried (half u) (half v) (half z) t high)

pub sum_bit : (u v : ℤ) (t : ℕ) → bit_of (u +ℤ v) t ≡ xor (bit_of u t) (xor (bit_of v t) (carry_from false u v t))
sum_bit u v t = bit_of-sum false u v (u +ℤ v) t (omega (arith, ints))

-- a number that was doubled has its bits one place higher
pub double_lowest : (z : ℤ) → bit_of (z +ℤ z) 0 ≡ false
double_lowest z = lowest_is (z +ℤ z) z false (omega (arith, ints))

pub double_bit : (z : ℤ) (t : ℕ) → bit_of (z +ℤ z) (suc t) ≡ bit_of z t
double_bit z t = bit_of-half (z +ℤ z) t ∙ ap (λ h. bit_of h t) (half_is (z +ℤ z) z false (omega (arith, ints)))

-- the integer whose bits are all turned over
abbrev pub flipped : ℤ → ℤ
flipped (pos n) = negsuc n
flipped (negsuc n) = pos n

pub flipped_bit : (z : ℤ) (t : ℕ) → bit_of (flipped z) t ≡ not (bit_of z t)
flipped_bit (pos n) t = refl
flipped_bit (negsuc n) t = grind arith

pub modulo-flipped : (z : ℤ) (width : ℕ) → modulo (flipped z) width ≡ 2 ^ width - 1 - modulo z width
modulo-flipped (pos n) width = refl
modulo-flipped (negsuc n) width = omega (arith, modulo_below (pos n) width)

-- an integer modulo 2^width by its half and its lowest bit
modulo-half : (z : ℤ) (width : ℕ) → modulo z (suc width) ≡ 2 * modulo (half z) width + number (bit_of z 0)
modulo-half (pos n) width = grind (arith, lowest_number, rest_half)
modulo-half (negsuc n) width =
    let low : number (bit_of (pos n) 0) ≡ n % 2 = lowest_number n in
    omega (
      arith,
      rest_half n width,
      low,
      number_turned (bit_of (pos n) 0),
      modulo_below (pos (n / 2)) width,
      double_pow width,
    )

number_le : (first : Bool) (m : ℕ) → m ≡ number first → first ≡ nat_le 1 m
number_le true m e = grind (arith, nat_tests)
number_le false m e = grind (arith, nat_tests)

doubled_le : (p q m n b : ℕ) → q ≡ 2 * p → n ≡ 2 * m + b → b < 2 → nat_le p m ≡ nat_le q n
doubled_le p q m n b twice sum below = grind (arith, nat_tests)

-- the carry past the last of `width` bits says whether their sum is too large for them
pub carry_is_overflow : (first : Bool) (u v : ℤ) (width : ℕ)
    → carry_from first u v width ≡ nat_le (2 ^ width) (modulo u width + modulo v width + number first)
carry_is_overflow first u v zero =
    number_le first (modulo u 0 + modulo v 0 + number first) (omega (arith, modulo_below u 0, modulo_below v 0))
carry_is_overflow first u v (suc width) =
    let carried = majority (bit_of u 0) (bit_of v 0) first in
    let low = xor (bit_of u 0) (xor (bit_of v 0) first) in
    let bits = add_bits (bit_of u 0) (bit_of v 0) first in
    carry_from-half first u v width ∙ (carry_is_overflow carried (half u) (half v) width
    ∙ doubled_le (2 ^ width) (2 ^ suc width) (modulo (half u) width + modulo (half v) width + number carried)
    (modulo u (suc width) + modulo v (suc width) + number first) (number low) (double_pow width)
    (omega (arith, modulo-half u width, modulo-half v width, bits)) (number_below low))

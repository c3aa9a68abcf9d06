-- The bits of words that are joined, turned over, moved and cut.
use Rattle.px_num.proofs.Basics.{◌≡◌, ℕ, suc, ◌+◌, ◌-◌, ◌*◌, ◌/◌, ◌%◌, ◌^◌, ◌==◌, ◌<◌, false, ◌&&◌, ◌||◌, refl, ap, ◌∙◌}
use Rattle.px_num.proofs.Basics.{arith, bit_and, bit_or, bit_xor, agree_below_at, pow-add, shr_split, shr-shr}
use Rattle.px_num.proofs.Basics.{bit_at_and, bit_at_or, bit_at-zero}
use Rattle.std.proofs.lemmas.Nat.{field_of}
use Rattle.std.proofs.lemmas.Nat.Bits.{bit_at_xor}
use Rattle.px_num.specs.Bits.{nat_bit, xor}

pub and_at : (a b i : ℕ) → nat_bit (bit_and a b) i ≡ (nat_bit a i && nat_bit b i)
and_at a b i = grind (arith, bit_at_and)

pub or_at : (a b i : ℕ) → nat_bit (bit_or a b) i ≡ (nat_bit a i || nat_bit b i)
or_at a b i = grind (arith, bit_at_or)

pub xor_at : (a b i : ℕ) → nat_bit (bit_xor a b) i ≡ xor (nat_bit a i) (nat_bit b i)
xor_at a b i = grind (arith, bit_at_xor)

pub bit_of_zero : (i : ℕ) → nat_bit 0 i ≡ false
bit_of_zero i = ap (λ b. b == 1) (bit_at-zero i)

even_rest : (n k : ℕ) → n % 2 ^ suc k % 2 ≡ n % 2
even_rest n k =
    let e : suc k ≡ k + 1 = omega arith in
    let double : 2 ^ suc k ≡ 2 * 2 ^ k = ap (λ m. 2 ^ m) e ∙ omega (arith, pow-add 2 k 1) in
    let product = ap (λ m. n / 2 ^ suc k * m) double in
    omega (arith, shr_split n (suc k), product)

-- the low bits of a number
pub bit_of_low : (n width j : ℕ) → j < width → nat_bit (n % 2 ^ width) j ≡ nat_bit n j
bit_of_low n width j low =
    let e : width ≡ suc (width - j - 1) + j = omega arith in
    let moved = ap (λ k. n % 2 ^ k / 2 ^ j) e ∙ field_of n (suc (width - j - 1)) j in
    ap (λ m. m % 2 == 1) moved ∙ ap (λ m. m == 1) (even_rest (n / 2 ^ j) (width - j - 1))

-- a number that is moved down
pub bit_down : (n s k : ℕ) → nat_bit (n / 2 ^ s) k ≡ nat_bit n (s + k)
bit_down n s k = ap (λ m. m % 2 == 1) (shr-shr n s k)

-- the word that has its odd bits
pub odd_bits : (j : ℕ) → j < 64 → nat_bit 0xaaaa_aaaa_aaaa_aaaa j ≡ (j % 2 == 1)
odd_bits j below = agree_below_at (λ k. nat_bit 0xaaaa_aaaa_aaaa_aaaa k) (λ k. k % 2 == 1) 64 j refl below

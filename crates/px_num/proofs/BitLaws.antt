-- Laws of single bits.
use Rattle.px_num.proofs.Basics.{◌≡◌, ℕ, zero, suc, ◌+◌, ◌-◌, ◌*◌, ◌/◌, ◌%◌, ◌^◌, ◌<◌, ◌≤◌, ◌==◌, ℤ, pos, negsuc, ◌≤ℤ◌}
use Rattle.px_num.proofs.Basics.{◌<ℤ◌, neg_ℤ, false, not, is_negative, sym, ap, ◌∙◌, arith, one-le-pow, nat_tests}
use Rattle.px_num.proofs.Basics.{pow-add, shr_split, mod_below, bit_at_above, bit_at_cat_low, bit_at-suc}
use Rattle.px_num.specs.Bits.{bit_of, modulo, nat_bit}

pub pow_above : (e : ℕ) → 0 < 2 ^ e
pow_above e = omega (arith, one-le-pow e 2 (omega arith))

-- a number has no bit from its width on
pub nat_bit_above : (n width t : ℕ) → n < 2 ^ width → width ≤ t → nat_bit n t ≡ false
nat_bit_above n width t within past = ap (λ b. b == 1) (bit_at_above n width t within past)

-- from its width on, each bit of an integer is its sign
pub sign_bit : (v : ℤ) (t : ℕ) → neg_ℤ (pos (2 ^ t)) ≤ℤ v → v <ℤ pos (2 ^ t) → bit_of v t ≡ is_negative v
sign_bit (pos n) t low high = grind (arith, nat_bit_above)
sign_bit (negsuc n) t low high = grind (arith, nat_bit_above)

-- the low bits of a number are those of its rest
nat_bit_rest : (n width t : ℕ) → t < width → nat_bit n t ≡ nat_bit (n % 2 ^ width) t
nat_bit_rest n width t low =
    ap (λ m. nat_bit m t) (sym (shr_split n width))
    ∙ ap (λ b. b == 1) (bit_at_cat_low (n / 2 ^ width) width (n % 2 ^ width) t low)

turned : (p q : ℕ) → p < 2 → q < 2 → p + q ≡ 1 → not (p == 1) ≡ (q == 1)
turned p q below_p below_q sum = grind (arith, nat_tests)

-- two numbers whose sum has all the bits below `width` have none in common there
nat_bit_turned : (width n m t : ℕ) → t < width → n + m + 1 ≡ 2 ^ width → not (nat_bit n t) ≡ nat_bit m t
nat_bit_turned zero n m t low sum = absurd (omega arith)
nat_bit_turned (suc width) n m zero low sum = grind (arith, pow-add, turned)
nat_bit_turned (suc width) n m (suc t) low sum =
    let double : 2 ^ suc width ≡ 2 * 2 ^ width = ap (λ e. 2 ^ e) (omega arith) ∙ pow-add 2 1 width in
    let halves : n / 2 + m / 2 + 1 ≡ 2 ^ width = omega (arith, double) in
    grind (arith, bit_at-suc, nat_bit_turned width (n / 2) (m / 2) t (omega arith) halves)

-- the bits of an integer below `width` are those of the integer modulo 2^width
pub modulo_bit : (v : ℤ) (width t : ℕ) → t < width → bit_of v t ≡ nat_bit (modulo v width) t
modulo_bit (pos n) width t low = nat_bit_rest n width t low
modulo_bit (negsuc n) width t low =
    let below : n % 2 ^ width < 2 ^ width = mod_below n (2 ^ width) (pow_above width) in
    ap not (nat_bit_rest n width t low)
    ∙ nat_bit_turned width (n % 2 ^ width) (2 ^ width - 1 - n % 2 ^ width) t low (omega arith)

pub modulo_below : (v : ℤ) (width : ℕ) → modulo v width < 2 ^ width
modulo_below (pos n) width = mod_below n (2 ^ width) (pow_above width)
modulo_below (negsuc n) width = omega (arith, pow_above width)

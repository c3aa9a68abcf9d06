-- The bits of what the calls on rows make of words, and of the words in vectors.
use Rattle.px_num.proofs.Basics.{◌≡◌, ℕ, ◌-◌, ◌^◌, ◌==◌, ◌<◌, Bool, true, cond, not, ◌&&◌, List, length, get_or}
use Rattle.px_num.proofs.Basics.{sym, ap, ◌∙◌, arith, bit_and, bit_xor, bit_at_ones, get_or-zip2}
use Rattle.px_num.proofs.Basics.{length-zip2, zip2}
use Rattle.px_num.specs.Bits.{majority, nat_bit, xor}
use Rattle.px_rows.specs.Rows.{HasAll}
use Rattle.px_rows.specs.Words.{IsAdded, IsCarried, IsSummed}
use Rattle.px_rows.proofs.BitLaws.{and_at, xor_at}

pub all_ones : HasAll (2 ^ 64 - 1) true
all_ones = record { each = λ i in_word. ap (λ b. b == 1) (bit_at_ones 64 i in_word) }

pub turned_at : (word i : ℕ) → i < 64 → nat_bit (bit_xor word 18446744073709551615) i ≡ not (nat_bit word i)
turned_at word i in_word = xor_at word 18446744073709551615 i ∙ rw (all_ones.each i in_word) (xor_true (nat_bit word i))
  where
    xor_true : (b : Bool) → xor b true ≡ not b
    xor_true b = grind arith

added : (t k v m : Bool) → xor t (xor v k && m) ≡ cond m (xor v (xor t k)) t
added t k v m = grind arith

pub added_law : (target carry value mask : ℕ) → IsAdded (bit_xor target (bit_and (bit_xor value carry) mask)) target
    carry value mask
added_law target carry value mask = grind (arith, xor_at, bit_and, bit_xor, and_at, added)

carried : (t k v : Bool) → xor k (xor v k && xor k t) ≡ majority v t k
carried t k v = grind arith

pub carried_law : (target carry value : ℕ)
    → IsCarried (bit_xor carry (bit_and (bit_xor value carry) (bit_xor carry target))) target carry value
carried_law target carry value = grind (arith, xor_at, bit_and, bit_xor, and_at, carried)

pub summed_law : (a b c : ℕ) → IsSummed (bit_xor a (bit_xor b c)) a b c
summed_law a b c = record { each = λ i in_word. xor_at a (bit_xor b c) i ∙ ap (xor (nat_bit a i)) (xor_at b c i) }

-- ---- vectors of n lanes

module _ (n : ℕ) where
  long : (f : ℕ → ℕ → ℕ) (xs ys : List ℕ) → length xs ≡ n → length ys ≡ n → length (zip2 f xs ys) ≡ n
  long f xs ys hx hy = length-zip2 f xs ys (hx ∙ sym hy) ∙ hx

  lane : (f : ℕ → ℕ → ℕ) (xs ys : List ℕ) (i : ℕ) → length xs ≡ n → length ys ≡ n → i < n → get_or (zip2 f xs ys) i 0
      ≡ f (get_or xs i 0) (get_or ys i 0)
  lane f xs ys i hx hy h = get_or-zip2 f xs ys i 0 0 0 (omega arith) (omega arith)

  module _ (a b c d : List ℕ) (ha : length a ≡ n) (hb : length b ≡ n) (hc : length c ≡ n) (hd : length d ≡ n) (i : ℕ)
      (h : i < n) where
    -- a ^ ((c ^ b) & d)
    pub added_lane : IsAdded (get_or (zip2 bit_xor a (zip2 bit_and (zip2 bit_xor c b) d)) i 0) (get_or a i 0)
        (get_or b i 0) (get_or c i 0) (get_or d i 0)
    added_lane = grind (arith, lane, bit_xor, bit_and, long, added_law)

    -- b ^ ((c ^ b) & (b ^ a))
    pub carried_lane : IsCarried (get_or (zip2 bit_xor b (zip2 bit_and (zip2 bit_xor c b) (zip2 bit_xor b a))) i 0)
        (get_or a i 0) (get_or b i 0) (get_or c i 0)
    carried_lane = grind (arith, long, bit_xor, lane, bit_and, carried_law)

    -- a ^ (b ^ c)
    pub summed_lane : IsSummed (get_or (zip2 bit_xor a (zip2 bit_xor b c)) i 0) (get_or a i 0) (get_or b i 0)
        (get_or c i 0)
    summed_lane = grind (arith, lane, bit_xor, long, summed_law)

-- Bytes and words, lane by lane and bit by bit.
use Rattle.px_num.proofs.Basics.{◌≡◌, ℕ, zero, suc, ◌+◌, ◌-◌, ◌*◌, ◌/◌, ◌%◌, ◌^◌, ◌<◌, ◌≤◌, true, eqb, nat_lt, List}
use Rattle.px_num.proofs.Basics.{[], ◌∷◌, ◌++◌, length, get_or, replicate, refl, sym, ap, ◌∙◌, arith, inl, inr, ◌⊎◌}
use Rattle.px_num.proofs.Basics.{w64, bit_and, subst, cases_lt, agree_below_at, and_mask, mod_below, pow-add}
use Rattle.px_num.proofs.Basics.{bit_at_cat_low, bit_at_cat_high, get_or_append_left, get_or-append-add, get_or-map}
use Rattle.px_num.proofs.Basics.{length-map, length-zip2, get_or-zip2, get_or-chunk, zip2}
use Rattle.px_plane_tree.proofs.Words.{agree_below, bit_down, bit_of_low, bit_of_zero, eqb-true, HasBytes, IsDoubled}
use Rattle.px_plane_tree.proofs.Words.{IsTwice, ltb-true, nat_bit}
use Rattle.std.proofs.Common.{w8, Fits}
use Rattle.std.proofs.lemmas.Simd.{Each1-get_or, Each1-from_get_or, below_from_Fits, get_or-replicate, swz_l, SwzOk}
use Rattle.std.proofs.lemmas.Simd.{SwzOk-from_below, length-swz_l, get_or-swz_l_below, get_or_wider, get_or_narrower}
use Rattle.std.proofs.lemmas.Simd.{Each1-chunk}
use Rattle.std.proofs.Math.Nat.{pow-suc}
use Rattle.std.specs.Simd.Lanes.{Each1, chunk, number_l, digits_l, pick_l}

-- ---- the table

abbrev pub table : List ℕ
table = 0x00 ∷ 0x03 ∷ 0x0c ∷ 0x0f ∷ 0x30 ∷ 0x33 ∷ 0x3c ∷ 0x3f ∷ 0xc0 ∷ 0xc3 ∷ 0xcc ∷ 0xcf ∷ 0xf0 ∷ 0xf3 ∷ 0xfc
    ∷ 0xff ∷ []

table_bit : (n j : ℕ) → n < 16 → j < 8 → nat_bit (get_or table n 0) j ≡ nat_bit n (j / 2)
table_bit n j hn hj =
    agree_below_at (λ i. nat_bit (get_or table n 0) i) (λ i. nat_bit n (i / 2)) 8 j
    (agree_below_at (λ m. agree_below (λ i. nat_bit (get_or table m 0) i) (λ i. nat_bit m (i / 2)) 8) (λ m. true) 16
    n refl hn) hj

table_small : (n : ℕ) → n < 16 → get_or table n 0 < 256
table_small n h = ltb-true _ _ (agree_below_at (λ m. nat_lt (get_or table m 0) 256) (λ m. true) 16 n refl h)

-- what the table gives at places g k below 16
pub looked_up : (from : ℕ) (bytes js : List ℕ) (g : ℕ → ℕ) → length js ≡ 16 → ((k : ℕ) → k < 16 → get_or js k 0 ≡ g k)
    → ((k : ℕ) → k < 16 → g k < 16)
    → ((k i : ℕ) → k < 16 → i < 4 → nat_bit (g k) i ≡ nat_bit (get_or bytes k 0) (from + i))
    → IsTwice from bytes (swz_l w8 16 table 0 js)
looked_up from bytes js g long is small bits = record {
  lanes = record {
    long = length-swz_l w8 16 table 0 js ∙ long;
    small = λ k h. let t = table_small (g k) (small k h) in omega (arith, at k h);
  };
  each = λ k j h l. ap (λ n. nat_bit n j) (at k h) ∙ (table_bit (g k) j (small k h) l ∙ bits k (j / 2) h (omega arith));
}
  where
    at : (k : ℕ) → k < 16 → get_or (swz_l w8 16 table 0 js) k 0 ≡ get_or table (g k) 0
    at k h =
        get_or-swz_l_below w8 16 table 0 js k (omega arith) (omega arith) ∙ ap (λ m. get_or table m 0) (omega arith)

abbrev pub low_of : List ℕ → List ℕ
low_of v = zip2 bit_and v (replicate 16 15)

abbrev pub down : ℕ → ℕ → ℕ
down a b = a / 2 ^ b

abbrev pub high_of : List ℕ → List ℕ
high_of v = zip2 down v (replicate 16 4)

length_zip : (f : ℕ → ℕ → ℕ) (v : List ℕ) (x : ℕ) → length v ≡ 16 → length (zip2 f v (replicate 16 x)) ≡ 16
length_zip f v x h = length-zip2 f v (replicate 16 x) h ∙ h

get_zip : (f : ℕ → ℕ → ℕ) (v : List ℕ) (x k : ℕ) → length v ≡ 16 → k < 16 → get_or (zip2 f v (replicate 16 x)) k 0
    ≡ f (get_or v k 0) x
get_zip f v x k h l = get_or-zip2 f v (replicate 16 x) k 0 0 0 (omega arith) l
    ∙ ap (f (get_or v k 0)) (get_or-replicate 16 k x 0 l)

ok_of : (js : List ℕ) → length js ≡ 16 → ((k : ℕ) → k < 16 → get_or js k 0 < 16) → SwzOk w8 16 16 0 js
ok_of js h small = SwzOk-from_below w8 16 1 16 0 js refl (omega arith)
    (Each1-from_get_or (λ j. j < 16) js 0 (λ k l. small k (omega arith)))

low_small : (v : List ℕ) (k : ℕ) → length v ≡ 16 → k < 16 → get_or (low_of v) k 0 < 16
low_small v k h l = omega (arith, get_zip bit_and v 15 k h l, and_mask (get_or v k 0) 4)

pub low_ok : (v : List ℕ) → length v ≡ 16 → SwzOk w8 16 16 0 (low_of v)
low_ok v h = ok_of (low_of v) (length_zip bit_and v 15 h) (λ k l. low_small v k h l)

pub low_looked_up : (v : List ℕ) → length v ≡ 16 → IsTwice 0 v (swz_l w8 16 table 0 (low_of v))
low_looked_up v h =
    looked_up 0 v (low_of v) (λ k. get_or v k 0 % 16) (length_zip bit_and v 15 h)
    (λ k l. get_zip bit_and v 15 k h l ∙ and_mask (get_or v k 0) 4) (λ k l. omega arith)
    (λ k i l m. bit_of_low (get_or v k 0) 4 i m ∙ ap (nat_bit (get_or v k 0)) (omega arith))

high_small : (v : List ℕ) (k : ℕ) → length v ≡ 16 → Each1 (Fits w8) v → k < 16 → get_or v k 0 / 16 < 16
high_small v k h fits l = omega (arith, (Each1-get_or (Fits w8) v k 0 (omega arith) fits).fits)

pub high_ok : (v : List ℕ) → length v ≡ 16 → Each1 (Fits w8) v → SwzOk w8 16 16 0 (high_of v)
high_ok v h fits =
    ok_of (high_of v) (length_zip down v 4 h) (λ k l. omega (arith, get_zip down v 4 k h l, high_small v k h fits l))

pub high_looked_up : (v : List ℕ) → length v ≡ 16 → Each1 (Fits w8) v → IsTwice 4 v (swz_l w8 16 table 0 (high_of v))
high_looked_up v h fits =
    looked_up 4 v (high_of v) (λ k. get_or v k 0 / 16) (length_zip down v 4 h)
    (λ k l. get_zip down v 4 k h l) (λ k l. high_small v k h fits l)
    (λ k i l m. bit_down (get_or v k 0) 4 i)

-- ---- words as bytes

length_digits : (p n x : ℕ) → length (digits_l p n x) ≡ n
length_digits p zero x = refl
length_digits p (suc n) x = ap suc (length_digits p n (x / p))

digit_small : (p n x k : ℕ) → 0 < p → k < n → get_or (digits_l p n x) k 0 < p
digit_small p zero x k pos h = absurd (omega arith)
digit_small p (suc n) x zero pos h = mod_below x p pos
digit_small p (suc n) x (suc k) pos h = digit_small p n (x / p) k pos (omega arith)

power_256 : (i : ℕ) → 256 ^ i ≡ 2 ^ (8 * i)
power_256 zero = refl
power_256 (suc i) =
    let e : 8 * suc i ≡ 8 + 8 * i = omega arith in
    let p : 256 ^ suc i ≡ 256 * 256 ^ i = omega (arith, pow-suc 256 i) in
    p ∙ (ap (λ m. 256 * m) (power_256 i) ∙ sym (ap (λ m. 2 ^ m) e ∙ pow-add 2 8 (8 * i)))

pub bytes_law : (words : List ℕ) → length words ≡ 2 → Each1 (Fits w64) words
    → HasBytes words (digits_l 256 16 (number_l (2 ^ 64) words))
bytes_law words long fits = record {
  lanes = record {
    long = length_digits 256 16 (number_l (2 ^ 64) words);
    small = λ k h. digit_small 256 16 (number_l (2 ^ 64) words) k (omega arith) h;
  };
  each = λ k j h l.
      let whole : k ≡ 8 * (k / 8) + k % 8 = omega arith in
      let power : 256 ^ (k % 8) ≡ 2 ^ (8 * (k % 8)) = power_256 (k % 8) in
      ap (λ m. nat_bit (get_or (digits_l 256 16 (number_l (2 ^ 64) words)) m 0) j) whole
      ∙ (ap (λ n. nat_bit n j) (get_or_narrower (2 ^ 64) 8 256 16 words (k / 8) (k % 8) refl below (omega arith)
      (omega arith))
      ∙ (bit_of_low (get_or words (k / 8) 0 / 256 ^ (k % 8)) 8 j l
      ∙ (ap (λ m. nat_bit (get_or words (k / 8) 0 / m) j) power ∙ bit_down (get_or words (k / 8) 0) (8 * (k % 8)) j)));
}
  where
    below : Each1 (λ x. x < 2 ^ 64) words
    below = below_from_Fits w64 words fits

-- ---- bytes as words

pub number_bit : (xs : List ℕ) → Each1 (λ x. x < 256) xs → (j : ℕ) → nat_bit (number_l 256 xs) j
    ≡ nat_bit (get_or xs (j / 8) 0) (j % 8)
number_bit [] h j = bit_of_zero j ∙ sym (bit_of_zero (j % 8))
number_bit (x ∷ xs) h j =
    let turned : x + 256 * number_l 256 xs ≡ number_l 256 xs * 2 ^ 8 + x = omega arith in
    ap (λ n. nat_bit n j) turned ∙ elim (cases_lt j 8) [
      | inl l ↦ ap (λ b. eqb b 1) (bit_at_cat_low (number_l 256 xs) 8 x j l) ∙ same l
      | inr g ↦ ap (λ b. eqb b 1) (bit_at_cat_high (number_l 256 xs) 8 x j h.0 g)
          ∙ (number_bit xs h.1 (j - 8) ∙ later g)
    ]
  where
    same : j < 8 → nat_bit x j ≡ nat_bit (get_or (x ∷ xs) (j / 8) 0) (j % 8)
    same l = let a : j / 8 ≡ 0 = omega arith in let b : j % 8 ≡ j = omega arith in rw (a, b) refl

    later : 8 ≤ j → nat_bit (get_or xs ((j - 8) / 8) 0) ((j - 8) % 8) ≡ nat_bit (get_or (x ∷ xs) (j / 8) 0) (j % 8)
    later g = let a : j / 8 ≡ suc ((j - 8) / 8) = omega arith in let b : j % 8 ≡ (j - 8) % 8 = omega arith in
        rw (a, b) refl

abbrev pub woven : List ℕ → List ℕ → List ℕ → List ℕ
woven lows highs ks = pick_l 0 (lows ++ highs) ks

-- two rows of doubled half bytes, woven from byte `from` on
pub woven_law : (at from : ℕ) (words bytes lows highs ks : List ℕ) → from ≡ 8 * at → at < 2 → HasBytes words bytes
    → IsTwice 0 bytes lows → IsTwice 4 bytes highs → length ks ≡ 16 → ((k : ℕ) → k < 8 → get_or ks (2 * k) 0 ≡ from + k)
    → ((k : ℕ) → k < 8 → get_or ks (2 * k + 1) 0 ≡ 16 + (from + k))
    → IsDoubled (get_or words at 0) (digits_l (2 ^ 64) 2 (number_l 256 (pick_l 0 (lows ++ highs) ks)))
woven_law at from words bytes lows highs ks e two b lo hi long evens odds = record {
  lanes = record {
    long = length_digits (2 ^ 64) 2 (number_l 256 (woven lows highs ks));
    small = λ k h. digit_small (2 ^ 64) 2 (number_l 256 (woven lows highs ks)) k (omega arith) h;
  };
  each = λ i j h l.
      let in8 : j / 8 < 8 = omega arith in
      ap (λ n. nat_bit n j) (get_or_wider 256 8 (2 ^ 64) 2 (woven lows highs ks) i refl all_small h)
      ∙ (number_bit (chunk (8 * i) 8 (woven lows highs ks))
      (Each1-chunk (λ x. x < 256) (8 * i) 8 (woven lows highs ks) all_small) j
      ∙ (ap (λ n. nat_bit n (j % 8)) (get_or-chunk (8 * i) 8 (woven lows highs ks) (j / 8) 0 in8)
      ∙ at_bit i j h l));
}
  where
    v_long : length (woven lows highs ks) ≡ 16
    v_long = length-map ks (λ k. get_or (lows ++ highs) k 0) ∙ long

    even_is : (k : ℕ) → k < 8 → get_or (woven lows highs ks) (2 * k) 0 ≡ get_or lows (from + k) 0
    even_is k h =
        let l : 2 * k < length ks = omega arith in
        let n : from + k < length lows = omega arith in
        get_or-map (λ k. get_or (lows ++ highs) k 0) ks (2 * k) 0 0 l
        ∙ (ap (λ n. get_or (lows ++ highs) n 0) (evens k h) ∙ get_or_append_left lows highs 0 (from + k) n)

    odd_is : (k : ℕ) → k < 8 → get_or (woven lows highs ks) (2 * k + 1) 0 ≡ get_or highs (from + k) 0
    odd_is k h =
        let l : 2 * k + 1 < length ks = omega arith in
        let s : 16 + (from + k) ≡ length lows + (from + k) = omega (arith, lo.lanes.long) in
        get_or-map (λ k. get_or (lows ++ highs) k 0) ks (2 * k + 1) 0 0 l
        ∙ (ap (λ n. get_or (lows ++ highs) n 0) (odds k h ∙ s) ∙ get_or-append-add lows highs (from + k) 0)

    parity : (m : ℕ) → (m ≡ 2 * (m / 2)) ⊎ (m ≡ 2 * (m / 2) + 1)
    parity m = grind arith

    small_at : (m : ℕ) → m < 16 → get_or (woven lows highs ks) m 0 < 256
    small_at m h = elim (parity m) [
      | inl p ↦ subst (λ n. get_or (woven lows highs ks) n 0 < 256) (sym p)
          (omega (arith, even_is (m / 2) (omega arith), lo.lanes.small (from + m / 2) (omega arith)))
      | inr p ↦ subst (λ n. get_or (woven lows highs ks) n 0 < 256) (sym p)
          (omega (arith, odd_is (m / 2) (omega arith), hi.lanes.small (from + m / 2) (omega arith)))
    ]

    all_small : Each1 (λ x. x < 256) (woven lows highs ks)
    all_small = Each1-from_get_or (λ x. x < 256) (woven lows highs ks) 0 (λ k l. small_at k (omega (arith, v_long)))

    byte_bit : (k i : ℕ) → k < 8 → i < 8 → nat_bit (get_or bytes (from + k) 0) i ≡ nat_bit (get_or words at 0)
        (8 * k + i)
    byte_bit k i h l =
        let q : (from + k) / 8 ≡ at = omega arith in
        let r : (from + k) % 8 ≡ k = omega arith in
        b.each (from + k) i (omega arith) l ∙ rw (q, r) refl

    at_bit : (i j : ℕ) → i < 2 → j < 64 → nat_bit (get_or (woven lows highs ks) (8 * i + j / 8) 0) (j % 8)
        ≡ nat_bit (get_or words at 0) (32 * i + j / 2)
    at_bit i j h l =
        let k : (8 * i + j / 8) / 2 < 8 = omega arith in
        elim (parity (8 * i + j / 8)) [
          | inl p ↦
              let place : 8 * ((8 * i + j / 8) / 2) + (0 + j % 8 / 2) ≡ 32 * i + j / 2 = omega arith in
              ap (λ n. nat_bit (get_or (woven lows highs ks) n 0) (j % 8)) p
              ∙ (ap (λ n. nat_bit n (j % 8)) (even_is ((8 * i + j / 8) / 2) k)
              ∙ (lo.each (from + (8 * i + j / 8) / 2) (j % 8) (omega arith) (omega arith)
              ∙ (byte_bit ((8 * i + j / 8) / 2) (0 + j % 8 / 2) k (omega arith)
              ∙ ap (nat_bit (get_or words at 0)) place)))
          | inr p ↦
              let place : 8 * ((8 * i + j / 8) / 2) + (4 + j % 8 / 2) ≡ 32 * i + j / 2 = omega arith in
              ap (λ n. nat_bit (get_or (woven lows highs ks) n 0) (j % 8)) p
              ∙ (ap (λ n. nat_bit n (j % 8)) (odd_is ((8 * i + j / 8) / 2) k)
              ∙ (hi.each (from + (8 * i + j / 8) / 2) (j % 8) (omega arith) (omega arith)
              ∙ (byte_bit ((8 * i + j / 8) / 2) (4 + j % 8 / 2) k (omega arith)
              ∙ ap (nat_bit (get_or words at 0)) place)))
        ]

-- what holds at each of eight places
pub eight_places : (f g : ℕ → ℕ) → agree_below (λ k. eqb (f k) (g k)) (λ k. true) 8 ≡ true → (k : ℕ) → k < 8 → f k ≡ g k
eight_places f g all k low = eqb-true _ _ (agree_below_at (λ k. eqb (f k) (g k)) (λ k. true) 8 k all low)

-- The offset of a lane, from the bits of its number.
use Rattle.px_num.proofs.Basics.{◌≡◌, ℕ, ◌+◌, ◌-◌, ◌*◌, ◌/◌, ◌%◌, ◌^◌, ◌<◌, ◌≤◌, ◌==◌, ℤ, pos, ◌+ℤ◌, ◌*ℤ◌}
use Rattle.px_num.proofs.Basics.{if◌then◌else◌, ap, ◌∙◌, arith, inl, inr, ◌⊎◌, mod-mul, mod-eq_of_lt, one-le-pow}
use Rattle.px_num.proofs.Basics.{pow-le-pow_right, cases_lt, ints, pow-add, pow_below}
use Rattle.px_rows.proofs.LaneWords.{Linear, nat_bit, offset, value_at}
use Rattle.std.proofs.Math.Nat.{add-mul-div_left, add-mul-mod_self_left, div-eq_of_lt}

-- the height of a column as it is computed
pub height : (ny : ℕ) → ny ≤ 9 → 1 * 2 ^ ny % 4294967296 ≡ 2 ^ ny
height ny low = let s : 2 ^ ny < 2 ^ 10 = pow_below ny 10 (omega arith) in omega arith

pub offset_zero : (form : Linear) (ny : ℕ) → offset form ny 0 ≡ pos 0
offset_zero form ny = grind (arith, one-le-pow, div-eq_of_lt, mod-eq_of_lt)

-- adding r and K, of which K alone or their columns are whole
pub record Splits (p r k : ℕ) : Type 0 where
  pub column : (r + k) / p ≡ r / p + k / p
  pub row : (r + k) % p ≡ r % p + k % p

splits_below : (p r k : ℕ) → r < k → k + k ≤ p → Splits p r k
splits_below p r k small fits = grind (arith, div-eq_of_lt, mod-eq_of_lt)

pub splits_above : (p r q : ℕ) → 0 < p → Splits p r (p * q)
splits_above p r q some =
    let a : (r + p * q) / p ≡ r / p + q = add-mul-div_left r q some in
    let b : (r + p * q) % p ≡ r % p = add-mul-mod_self_left r p q in
    let z : (0 + p * q) / p ≡ 0 / p + q = add-mul-div_left 0 q some in
    let y : (0 + p * q) % p ≡ 0 % p = add-mul-mod_self_left 0 p q in
    let e : 0 + p * q ≡ p * q = omega arith in
    let z2 : p * q / p ≡ 0 / p + q = rw e at z in
    let y2 : p * q % p ≡ 0 % p = rw e at y in
    record { column = omega arith; row = omega arith }

splits : (ny r k : ℕ) → r < 2 ^ k → Splits (2 ^ ny) r (2 ^ k)
splits ny r k small = elim (cases_lt k ny) [
  | inl low ↦
      let double : 2 ^ (k + 1) ≡ 2 * 2 ^ k = omega (arith, pow-add 2 k 1) in
      let below : k + 1 ≤ ny = omega arith in
      splits_below (2 ^ ny) r (2 ^ k) small (omega (arith, double, pow-le-pow_right {n = 2} (omega arith) below))
  | inr high ↦
      let e : k ≡ ny + (k - ny) = omega arith in
      let power : 2 ^ k ≡ 2 ^ ny * 2 ^ (k - ny) = ap (λ n. 2 ^ n) e ∙ pow-add 2 ny (k - ny) in
      rw power (splits_above (2 ^ ny) r (2 ^ (k - ny)) (one-le-pow ny 2 (omega arith)))
]

sum_of_offsets : (a b : ℤ) (c d e f x y : ℕ) → x ≡ c + e → y ≡ d + f
    → ((a *ℤ pos c) +ℤ (b *ℤ pos d)) +ℤ ((a *ℤ pos e) +ℤ (b *ℤ pos f)) ≡ (a *ℤ pos x) +ℤ (b *ℤ pos y)
sum_of_offsets a b c d e f x y columns rows = rw (columns, rows) (omega (arith, ints))

offset_more : (form : Linear) (ny r k : ℕ) → r < 2 ^ k → offset form ny r +ℤ offset form ny (2 ^ k)
    ≡ offset form ny (r + 2 ^ k)
offset_more form ny r k small = grind (arith, splits, sum_of_offsets)

with_bit : (form : Linear) (ny r k n : ℕ) → r < 2 ^ k → n < 2
    → offset form ny r +ℤ (if n == 1 then offset form ny (2 ^ k) else pos 0) ≡ offset form ny (n * 2 ^ k + r)
with_bit form ny r k n small bit = elim (zero_or_one n bit) [
  | inl e ↦ rw e (plus_nothing form ny r (0 * 2 ^ k + r) (omega arith))
  | inr e ↦ rw e (offset_more form ny r k small ∙ ap (offset form ny) (omega arith))
]
  where
    zero_or_one : (n : ℕ) → n < 2 → (n ≡ 0) ⊎ (n ≡ 1)
    zero_or_one n below = grind arith

    plus_nothing : (form : Linear) (ny r s : ℕ) → s ≡ r → offset form ny r +ℤ pos 0 ≡ offset form ny s
    plus_nothing form ny r s e = grind arith

-- one bit more of the lane's number
pub offset_step : (form : Linear) (ny j k : ℕ)
    → offset form ny (j % 2 ^ k) +ℤ (if nat_bit j k then offset form ny (2 ^ k) else pos 0)
    ≡ offset form ny (j % 2 ^ (k + 1))
offset_step form ny j k =
    let some : 1 ≤ 2 ^ k = one-le-pow k 2 (omega arith) in
    let double : 2 ^ (k + 1) ≡ 2 * 2 ^ k = omega (arith, pow-add 2 k 1) in
    let cut : j % (2 * 2 ^ k) ≡ j / 2 ^ k % 2 * 2 ^ k + j % 2 ^ k = mod-mul j (omega arith) (omega arith) in
    grind (arith, with_bit)

-- in a column that has whole words
pub offset_in_column : (form : Linear) (ny j : ℕ) → 6 ≤ ny → j < 64 → offset form ny j ≡ form.b *ℤ pos j
offset_in_column form ny j high small =
    let most : 2 ^ 6 ≤ 2 ^ ny = pow-le-pow_right {n = 2} (omega arith) high in
    let inside : j < 2 ^ ny = omega arith in
    rw (div-eq_of_lt inside, mod-eq_of_lt inside) (alone form.a (form.b *ℤ pos j))
  where
    alone : (a z : ℤ) → (a *ℤ pos 0) +ℤ z ≡ z
    alone a z = omega (arith, ints)

-- ---- the first pixel of a word

pub sum_of_values : (a b k : ℤ) (c d e f x y : ℕ) → x ≡ c + e → y ≡ d + f
    → ((a *ℤ pos x) +ℤ (b *ℤ pos y)) +ℤ k ≡ ((a *ℤ pos c) +ℤ (b *ℤ pos d)) +ℤ (((a *ℤ pos e) +ℤ (b *ℤ pos f)) +ℤ k)
sum_of_values a b k c d e f x y columns rows = rw (columns, rows) (omega (arith, ints))

-- a word begins at the head of a column, or lies within one
word_splits : (ny w j : ℕ) → j < 64 → Splits (2 ^ ny) j (64 * w)
word_splits ny w j small = elim (cases_lt 6 ny) [
  | inl high ↦
      let e : ny ≡ 6 + (ny - 6) = omega arith in
      let power : 2 ^ ny ≡ 64 * 2 ^ (ny - 6) = ap (λ n. 2 ^ n) e ∙ pow-add 2 6 (ny - 6) in
      rw power (splits_within j w (2 ^ (ny - 6)) small (one-le-pow (ny - 6) 2 (omega arith)))
  | inr low ↦
      let e : 6 ≡ ny + (6 - ny) = omega arith in
      let power : 64 ≡ 2 ^ ny * 2 ^ (6 - ny) = ap (λ n. 2 ^ n) e ∙ pow-add 2 ny (6 - ny) in
      let place : 64 * w ≡ 2 ^ ny * (2 ^ (6 - ny) * w) =
      omega (arith, mul_by power w, mul_assoc (2 ^ ny) (2 ^ (6 - ny)) w) in
      rw place (splits_above (2 ^ ny) j (2 ^ (6 - ny) * w) (one-le-pow ny 2 (omega arith)))
]
  where
    mul_by : {a b : ℕ} → a ≡ b → (w : ℕ) → a * w ≡ b * w
    mul_by e w = ap (λ n. n * w) e

    mul_assoc : (a b c : ℕ) → a * b * c ≡ a * (b * c)
    mul_assoc a b c = omega arith

    splits_within : (j w q : ℕ) → j < 64 → 1 ≤ q → Splits (64 * q) j (64 * w)
    splits_within j w q small some =
        let cut : w % q + q * (w / q) ≡ w = omega arith in
        let whole : j + 64 * w ≡ (j + 64 * (w % q)) + 64 * q * (w / q) = omega (arith, ap (λ n. 64 * n) cut) in
        let alone : 64 * w ≡ 64 * (w % q) + 64 * q * (w / q) = omega (arith, ap (λ n. 64 * n) cut) in
        let a : (j + 64 * w) / (64 * q) ≡ (j + 64 * (w % q)) / (64 * q) + w / q =
        ap (λ n. n / (64 * q)) whole ∙ add-mul-div_left (j + 64 * (w % q)) (w / q) (omega arith) in
        let c : 64 * w / (64 * q) ≡ 64 * (w % q) / (64 * q) + w / q =
        ap (λ n. n / (64 * q)) alone ∙ add-mul-div_left (64 * (w % q)) (w / q) (omega arith) in
        let small_sum : j + 64 * (w % q) < 64 * q = omega arith in
        let e1 : (j + 64 * (w % q)) / (64 * q) ≡ 0 = div-eq_of_lt small_sum in
        let smaller : 64 * (w % q) < 64 * q = omega arith in
        let e3 : 64 * (w % q) / (64 * q) ≡ 0 = div-eq_of_lt smaller in
        let j_small : j < 64 * q = omega arith in
        let e5 : j / (64 * q) ≡ 0 = div-eq_of_lt j_small in
        grind arith

pub value_in_word : (form : Linear) (ny w j : ℕ) → j < 64 → value_at form ((64 * w + j) / 2 ^ ny)
    ((64 * w + j) % 2 ^ ny) ≡ offset form ny j +ℤ value_at form (64 * w / 2 ^ ny) (64 * w % 2 ^ ny)
value_in_word form ny w j small =
    let s = word_splits ny w j small in
    grind (arith, sum_of_values)

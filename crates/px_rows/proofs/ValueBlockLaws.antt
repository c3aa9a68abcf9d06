-- The values at the pixels of a block of eight words, from the one at its first.
use Rattle.px_num.proofs.Basics.{◌≡◌, ◌∙◌, ℕ, ◌+◌, ◌-◌, ◌*◌, ◌/◌, ◌%◌, ◌^◌, ◌≤◌, ℤ, ◌+ℤ◌, ap, arith, one-le-pow, ints}
use Rattle.px_num.proofs.Basics.{pow-add}
use Rattle.px_rows.proofs.LaneWords.{Linear, offset, value_at}
use Rattle.px_rows.proofs.OffsetLemmas.{Splits, splits_above, sum_of_values}

-- a block begins at the head of a column
block_splits : (ny block j : ℕ) → ny ≤ 9 → Splits (2 ^ ny) j (512 * block)
block_splits ny block j low =
    let e : 9 ≡ ny + (9 - ny) = omega arith in
    let power : 512 ≡ 2 ^ ny * 2 ^ (9 - ny) = ap (λ n. 2 ^ n) e ∙ pow-add 2 ny (9 - ny) in
    let place : 512 * block ≡ 2 ^ ny * (2 ^ (9 - ny) * block) = grind arith in
    rw place (splits_above (2 ^ ny) j (2 ^ (9 - ny) * block) (one-le-pow ny 2 (omega arith)))
  where
    mul_assoc : (a b c : ℕ) → a * b * c ≡ a * (b * c)
    mul_assoc a b c = omega arith

value_in_block : (form : Linear) (ny block j : ℕ) → ny ≤ 9 → value_at form ((512 * block + j) / 2 ^ ny)
    ((512 * block + j) % 2 ^ ny) ≡ offset form ny j +ℤ value_at form (512 * block / 2 ^ ny) (512 * block % 2 ^ ny)
value_in_block form ny block j low =
    let s = block_splits ny block j low in
    grind (arith, sum_of_values)

-- a value and that of the block behind
pub value_behind : (form : Linear) (ny block j : ℕ) → ny ≤ 9
    → value_at form ((512 * (block + 1) + j) / 2 ^ ny) ((512 * (block + 1) + j) % 2 ^ ny)
    ≡ value_at form ((512 * block + j) / 2 ^ ny) ((512 * block + j) % 2 ^ ny) +ℤ offset form ny 512
value_behind form ny block j low =
    let next : 512 * (block + 1) ≡ 512 * block + 512 = omega arith in
    let head = ap (λ n. value_at form (n / 2 ^ ny) (n % 2 ^ ny)) next ∙ value_in_block form ny block 512 low in
    turned _ _ _ _ _ _ (value_in_block form ny (block + 1) j low) head (value_in_block form ny block j low)
  where
    turned : (v w o s b c : ℤ) → v ≡ o +ℤ c → c ≡ s +ℤ b → w ≡ o +ℤ b → v ≡ w +ℤ s
    turned v w o s b c is head before = omega (arith, ints, is, head, before)

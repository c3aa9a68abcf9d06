-- The shuffles by which a block is turned over.
use Rattle.px_state.proofs.Cited.{ap, arith, cases_lt, cond, get_or, get_or-set_other, get_or-set_same, inl, inr}
use Rattle.px_state.proofs.Cited.{length, length-set, List, nat_bit, row_bit, set, shuffled, sym, ℕ, ◌%◌, ◌*◌, ◌+◌, ◌/◌}
use Rattle.px_state.proofs.Cited.{◌<◌, ◌==◌, ◌∙◌, ◌≡◌}

-- a shuffle stays in the block, and six of them turn it over
pub shuffled_below : (p : ℕ) → p < 4096 → shuffled p < 4096
shuffled_below p within = omega arith

pub shuffled_often : (p : ℕ) → p < 4096
    → shuffled (shuffled (shuffled (shuffled (shuffled (shuffled p))))) ≡ 64 * (p % 64) + p / 64
shuffled_often p within = omega arith

-- the bit that a shuffle brings to word 2 w + h
pub merged_place : (block : List ℕ) (w h p : ℕ) → w < 32 → h < 2 → p / 64 ≡ 2 * w + h
    → cond (p % 64 % 2 == 1) (nat_bit (get_or block (32 + w) 0) (32 * h + p % 64 / 2))
    (nat_bit (get_or block w 0) (32 * h + p % 64 / 2))
    ≡ row_bit block (shuffled p)
merged_place block w h p few two word = grind arith

-- two words of a shuffle more
pub shuffled_more : (block words : List ℕ) (w low high : ℕ) → w < 32 → length words ≡ 64
    → ((p : ℕ) → p < 128 * w → row_bit words p ≡ row_bit block (shuffled p))
    → ((j : ℕ) → j < 64 → nat_bit low j ≡ cond (j % 2 == 1) (nat_bit (get_or block (32 + w) 0) (32 * 0 + j / 2))
    (nat_bit (get_or block w 0) (32 * 0 + j / 2)))
    → ((j : ℕ) → j < 64 → nat_bit high j ≡ cond (j % 2 == 1) (nat_bit (get_or block (32 + w) 0) (32 * 1 + j / 2))
    (nat_bit (get_or block w 0) (32 * 1 + j / 2)))
    → (p : ℕ) → p < 128 * (w + 1) → row_bit (set (set words (2 * w) low) (2 * w + 1) high) p ≡ row_bit block (shuffled p)
shuffled_more block words w low high few long before low_is high_is p below = elim (cases_lt p (128 * w)) [
  | inl early ↦
      ap (λ n. nat_bit n (p % 64)) (get_or-set_other (set words (2 * w) low) (2 * w + 1) (p / 64) high 0 (omega arith)
      ∙ get_or-set_other words (2 * w) (p / 64) low 0 (omega arith))
      ∙ before p early
  | inr late ↦ elim (cases_lt p (128 * w + 64)) [
    | inl first ↦
        let word : p / 64 ≡ 2 * w + 0 = omega arith in
        let at : p / 64 ≡ 2 * w = omega arith in
        ap (λ k. nat_bit (get_or (set (set words (2 * w) low) (2 * w + 1) high) k 0) (p % 64)) at
        ∙ (ap (λ n. nat_bit n (p % 64)) (get_or-set_other (set words (2 * w) low) (2 * w + 1) (2 * w) high 0 (omega arith)
        ∙ get_or-set_same words (2 * w) low 0 (omega (arith, long)))
        ∙ (low_is (p % 64) (omega arith) ∙ merged_place block w 0 p few (omega arith) word))
    | inr second ↦
        let word : p / 64 ≡ 2 * w + 1 = omega arith in
        ap (λ k. nat_bit (get_or (set (set words (2 * w) low) (2 * w + 1) high) k 0) (p % 64)) word
        ∙ (ap (λ n. nat_bit n (p % 64)) (get_or-set_same (set words (2 * w) low) (2 * w + 1) high 0
        (omega (arith, long, length-set words (2 * w) low)))
        ∙ (high_is (p % 64) (omega arith) ∙ merged_place block w 1 p few (omega arith) word))
  ]
]

row_at : (words : List ℕ) (w b : ℕ) → b < 64 → row_bit words (64 * w + b) ≡ nat_bit (get_or words w 0) b
row_at words w b within = grind arith

-- a block that was turned over
pub turned_in : (block turned : List ℕ)
    → ((p : ℕ) → p < 4096 → row_bit turned p ≡ row_bit block (64 * (p % 64) + p / 64)) → (j i : ℕ) → j < 64 → i < 64
    → nat_bit (get_or turned j 0) i ≡ nat_bit (get_or block i 0) j
turned_in block turned over j i word bit =
    let place : 64 * ((64 * j + i) % 64) + (64 * j + i) / 64 ≡ 64 * i + j = omega arith in
    sym (row_at turned j i bit) ∙ (over (64 * j + i) (omega arith) ∙ (ap (row_bit block) place ∙ row_at block i j word))

-- Planes by columns, and by 64 words at once.
use Rattle.px_state.proofs.Cited.{ap, arith, bit_down, cases_eq, div-add-mod, get_or, get_or-set_other}
use Rattle.px_state.proofs.Cited.{get_or-set_same, inl, inr, length, List, nat_bit, pow-add, pow_above, row_bit}
use Rattle.px_state.proofs.Cited.{row_words, set, suc, zero, ℕ, ◌%◌, ◌*◌, ◌+◌, ◌/◌, ◌<◌, ◌^◌, ◌∙◌, ◌≡◌}
use Rattle.px_state.proofs.ShapeLemmas.{apart}

-- the bits of a column from a row on that is a multiple of 64 are in one word
pub in_one_word : (ny x w j : ℕ) → 64 * w + j < 2 ^ ny → j < 64 → (x * 2 ^ ny + 64 * w) % 64 + j < 64
in_one_word zero x w j within low = omega arith
in_one_word (suc zero) x w j within low = omega arith
in_one_word (suc (suc zero)) x w j within low = omega arith
in_one_word (suc (suc (suc zero))) x w j within low = omega arith
in_one_word (suc (suc (suc (suc zero)))) x w j within low = omega arith
in_one_word (suc (suc (suc (suc (suc zero))))) x w j within low = omega arith
in_one_word (suc (suc (suc (suc (suc (suc k)))))) x w j within low =
    let power : 2 ^ suc (suc (suc (suc (suc (suc k))))) ≡ 64 * 2 ^ k = omega (arith, pow-add 2 6 k) in
    let moved : x * (64 * 2 ^ k) ≡ 64 * (x * 2 ^ k) = grind arith in
    let whole : x * 2 ^ suc (suc (suc (suc (suc (suc k))))) ≡ 64 * (x * 2 ^ k) = ap (λ p. x * p) power ∙ moved in
    omega (arith, whole)

-- a word of a row that is moved down to a place
pub moved_bit : (row : List ℕ) (place j : ℕ) → place % 64 + j < 64
    → nat_bit (get_or row (place / 64) 0 / 2 ^ (place % 64)) j ≡ row_bit row (place + j)
moved_bit row place j low = grind (arith, bit_down)

-- words that are one are of one row, and one of it
pub same_place : (each y c v d : ℕ) → c < each → d < each → y * each + c ≡ v * each + d → (y ≡ v) × (c ≡ d)
same_place each y c v d one two same = elim (cases_eq y v) [
  | inl e ↦ (e, omega (arith, ap (λ n. n * each) e, same))
  | inr other ↦ absurd (apart y v each c d one two other same)
]

-- the block that has a word of a row, and the rows that a block has
pub block_is : (each y c b : ℕ) → y / 64 ≡ b / each → c ≡ b % each → y / 64 * each + c ≡ b
block_is each y c b row column = rw (row, column) (omega (arith, div-add-mod b each))

pub some_words : (nx : ℕ) → 0 < row_words nx
some_words nx = omega (arith, pow_above nx)

-- a word more of a list of words
pub more_words : (Is : (k word : ℕ) → Type 0) (words : List ℕ) (k word : ℕ) → k < length words
    → ((i : ℕ) → i < k → Is i (get_or words i 0)) → Is k word
    → (i : ℕ) → i < k + 1 → Is i (get_or (set words k word) i 0)
more_words Is words k word within before is i low = grind (arith, get_or-set_same, get_or-set_other)

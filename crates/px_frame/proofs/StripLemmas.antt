-- The numbers of a strip, column by column.
use Rattle.px_num.proofs.Basics.{◌≡◌, ℕ, zero, suc, ◌+◌, ◌*◌, ◌/◌, ◌%◌, ◌^◌, ◌==◌, ◌<◌, ◌≤◌, Bool, true, false}
use Rattle.px_num.proofs.Basics.{if◌then◌else◌, List, ◌++◌, get_or, length, ap, sym, subst, ◌∙◌, arith, inl, inr}
use Rattle.px_num.proofs.Basics.{length-append, cases_lt, get_or_append_left, get_or-append-add, shr-shr, shr_split}
use Rattle.px_num.proofs.Basics.{bit_at_cat_low}
use Rattle.px_frame.proofs.Words.{double_pow, Field, HoldsRow, index_below, IsMemoryWord, memory_bit}
use Rattle.px_frame.proofs.Words.{nat_bit, number_from_bits, number_in, pixel_of, power_grows, power_next, State}
use Rattle.px_frame.proofs.Words.{strip_number}

-- one of eight bits of a word that is moved down to a place
pub moved_bit : (state : State) (at place word j : ℕ) → IsMemoryWord state at (place / 64) word → j < 8
    → place % 64 + j < 64 → nat_bit (word / 2 ^ (place % 64) % 256) j ≡ memory_bit state at (place + j)
moved_bit state at place word j is low within =
    let moved = word / 2 ^ (place % 64) in
    let whole : 64 * (place / 64) + (place % 64 + j) ≡ place + j = omega arith in
    ap (λ b. b == 1) (sym (bit_at_cat_low (moved / 2 ^ 8) 8 (moved % 2 ^ 8) j low))
    ∙ ap (λ m. nat_bit m j) (shr_split moved 8)
    ∙ ap (λ m. m % 2 == 1) (shr-shr word (place % 64) j)
    ∙ (is (place % 64 + j) within ∙ ap (memory_bit state at) whole)

-- a number with one bit more stays small
pub small_more : (b : Bool) (n t : ℕ) → n < 2 ^ t → n + (if b then 2 ^ t else 0) < 2 ^ (t + 1)
small_more true n t small = omega (arith, power_next t)
small_more false n t small = omega (arith, power_next t)

-- eight rows of a column are in one word
pub in_one_word : (ny x top j : ℕ) → top % 8 ≡ 0 → j < 8 → top + j < 2 ^ ny → (x * 2 ^ ny + top) % 64 + j < 64
in_one_word zero x top j first low within = omega arith
in_one_word (suc zero) x top j first low within = omega arith
in_one_word (suc (suc zero)) x top j first low within = omega arith
in_one_word (suc (suc (suc k))) x top j first low within =
    let power : 2 ^ suc (suc (suc k)) ≡ 8 * 2 ^ k =
    omega (arith, double_pow k, double_pow (suc k), double_pow (suc (suc k))) in
    let moved : x * (8 * 2 ^ k) ≡ 8 * (x * 2 ^ k) = grind arith in
    let eight : x * 2 ^ suc (suc (suc k)) ≡ 8 * (x * 2 ^ k) = ap (λ p. x * p) power ∙ moved in
    omega (arith, eight)

-- the number of a pixel, by its place
pub number_read : (state : State) (field : Field) (x row place j : ℕ) → place + j ≡ x * 2 ^ state.tree.ny + row
    → x * 2 ^ state.tree.ny + row < 2 ^ (state.tree.nx + state.tree.ny)
    → number_from_bits (λ t. memory_bit state (field.at + t) (place + j)) field.len
    ≡ number_in field (pixel_of state x row).memory
number_read state field x row place j same within = grind arith

-- one column more
pub columns_more : (field : Field) (state : State) (x top place : ℕ) (strip column : List ℕ) → top % 8 ≡ 0
    → x < 2 ^ state.tree.nx → field.len ≤ 24 → place ≡ x * 2 ^ state.tree.ny + top → length column ≡ 8
    → ((j : ℕ) → j < 8 → place % 64 + j < 64 → get_or column j 0
    ≡ number_from_bits (λ t. memory_bit state (field.at + t) (place + j)) field.len)
    → ((j : ℕ) → j < 8 → get_or column j 0 < 2 ^ field.len)
    → HoldsRow strip field state x top → HoldsRow (strip ++ column) field state (x + 1) top
columns_more field state x top place strip column first inside few is long numbers small held = record {
  long = length-append strip column ∙ omega (arith, held.long, long);
  each = λ k row low same above. elim (cases_lt k x) [
    | inl before ↦
        let past : 8 * k + row % 8 < length strip = omega (arith, held.long) in
        get_or_append_left strip column 0 (8 * k + row % 8) past ∙ held.each k row before same above
    | inr from ↦
        let this : k ≡ x = omega (arith, low, from) in
        subst (λ k. strip_number (strip ++ column) k row ≡ number_in field (pixel_of state k row).memory) (sym this)
        (last row same above)
  ];
  small = λ k row low. elim (cases_lt k x) [
    | inl before ↦
        let past : 8 * k + row % 8 < length strip = omega (arith, held.long) in
        subst (λ n. n < 2 ^ 24) (sym (get_or_append_left strip column 0 (8 * k + row % 8) past))
        (held.small k row before)
    | inr from ↦
        let this : k ≡ x = omega (arith, low, from) in
        let most : 2 ^ field.len ≤ 2 ^ 24 = power_grows field.len 24 few in
        let below : get_or column (row % 8) 0 < 2 ^ 24 = omega (arith, small (row % 8) (omega arith), most) in
        subst (λ k. strip_number (strip ++ column) k row < 2 ^ 24) (sym this)
        (subst (λ n. n < 2 ^ 24) (sym (here row)) below)
  ];
}
  where
    here : (row : ℕ) → strip_number (strip ++ column) x row ≡ get_or column (row % 8) 0
    here row =
        let at : 8 * x + row % 8 ≡ length strip + row % 8 = omega (arith, held.long) in
        ap (λ p. get_or (strip ++ column) p 0) at ∙ get_or-append-add strip column (row % 8) 0

    last : (row : ℕ) → row / 8 ≡ top / 8 → row < 2 ^ state.tree.ny
        → strip_number (strip ++ column) x row ≡ number_in field (pixel_of state x row).memory
    last row same above =
        let j = row % 8 in
        let split : top + row % 8 ≡ row = omega (arith, first, same) in
        let whole : place + row % 8 ≡ x * 2 ^ state.tree.ny + row = omega (arith, is, split) in
        let fits : (x * 2 ^ state.tree.ny + top) % 64 + row % 8 < 64 =
        in_one_word state.tree.ny x top (row % 8) first (omega arith) (omega (arith, split, above)) in
        let word : place % 64 + row % 8 < 64 = subst (λ p. p % 64 + row % 8 < 64) (sym is) fits in
        here row ∙ (numbers (row % 8) (omega arith) word
        ∙ number_read state field x row place (row % 8) whole
        (index_below state.tree.nx state.tree.ny x row inside above))

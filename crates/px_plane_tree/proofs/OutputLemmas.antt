-- The rows of outputs that are lent.
use Rattle.px_num.proofs.Basics.{◌≡◌, ℕ, ◌+◌, ◌-◌, ◌*◌, ◌/◌, ◌%◌, ◌^◌, ◌<◌, ◌≤◌, false, cond, nat_lt, List, length}
use Rattle.px_num.proofs.Basics.{get_or, refl, sym, ap, ◌∙◌, arith, inl, inr, cases_lt, le-ltb, lt-ltb, pow-add}
use Rattle.px_num.proofs.Basics.{one-le-pow, pow-le-pow_right}
use Rattle.px_plane_tree.proofs.Words.{AreSmallLevels, nat_bit, node_at, row_bit, seen_tree}
use Rattle.px_plane_tree.proofs.TreeLemmas.{bit_seen, small_power}

power_at : (level : ℕ) → 6 ≤ level → 2 ^ level ≡ 64 * 2 ^ (level - 6)
power_at level h = let e : 6 + (level - 6) ≡ level = omega arith in ap (λ m. 2 ^ m) (sym e) ∙ pow-add 2 6 (level - 6)

power_below : (level levels : ℕ) → level ≤ levels → 2 * 2 ^ level ≤ 2 ^ (levels + 1)
power_below level levels h = grind (arith, pow-add, pow-le-pow_right)

pub large_fits : (level nx ny at n : ℕ) → 6 ≤ level → level ≤ nx + ny → at ≡ 2 ^ (level - 6) → 2 ^ (nx + ny + 1) ≤ 64
    * n → 2 * at ≤ n
large_fits level nx ny at n h le e enough = omega (arith, power_at level h, power_below level (nx + ny) le)

pub large_words : (level at : ℕ) → 6 ≤ level → at ≡ 2 ^ (level - 6) → 2 * at - at ≡ (2 ^ level + 63) / 64
large_words level at h e = omega (arith, power_at level h)

pub large_bits : (level nx ny at : ℕ) (outputs carries part : List ℕ) → 6 ≤ level → level ≤ nx + ny
    → at ≡ 2 ^ (level - 6) → length part ≡ 2 * at - at
    → ((p : ℕ) → p < 64 * (2 * at - at) → row_bit part p ≡ row_bit outputs (64 * at + p))
    → (p : ℕ) → p < 64 * length part → row_bit part p ≡ cond (nat_lt p (2 ^ level))
    (node_at (seen_tree nx ny outputs carries) level p).output false
large_bits level nx ny at outputs carries part h le e long bits p lt =
    let w : 2 ^ level ≡ 64 * at = omega (arith, power_at level h) in
    grind (arith, lt-ltb, bit_seen, power_below)

pub small_words : (level : ℕ) → level < 6 → level + 1 - level ≡ (2 ^ level + 63) / 64
small_words level h = omega (arith, small_power level h, one-le-pow level 2 (omega arith))

pub small_bits : (level nx ny : ℕ) (outputs carries small part : List ℕ) → 1 ≤ level → level < 6 → level ≤ nx + ny
    → AreSmallLevels outputs small → length part ≡ level + 1 - level
    → ((p : ℕ) → p < 64 * (level + 1 - level) → row_bit part p ≡ row_bit small (64 * level + p))
    → (p : ℕ) → p < 64 * length part → row_bit part p ≡ cond (nat_lt p (2 ^ level))
    (node_at (seen_tree nx ny outputs carries) level p).output false
small_bits level nx ny outputs carries small part one h le s long bits p lt =
    let here : p < 64 = omega arith in
    let word : (64 * level + p) / 64 ≡ level = omega arith in
    let place : (64 * level + p) % 64 ≡ p = omega arith in
    let first : row_bit small (64 * level + p) ≡ cond (nat_lt p (2 ^ level))
    (nat_bit (get_or outputs 0 0) (2 ^ level + p)) false = rw (word, place) (s.each level p one h here) in
    bits p (omega arith) ∙ (first ∙ elim (cases_lt p (2 ^ level)) [
      | inl l ↦
          let zero_word : (2 ^ level + p) / 64 ≡ 0 = omega (arith, small_power level h) in
          let same : (2 ^ level + p) % 64 ≡ 2 ^ level + p = omega (arith, small_power level h) in
          let seen = bit_seen (2 ^ (nx + ny + 1)) outputs carries (2 ^ level + p) (2 ^ level + p) refl
          (omega (arith, power_below level (nx + ny) le)) in
          rw (lt-ltb p (2 ^ level) l) (rw (zero_word, same) at seen)
      | inr g ↦ rw (le-ltb p (2 ^ level) g) refl
    ])

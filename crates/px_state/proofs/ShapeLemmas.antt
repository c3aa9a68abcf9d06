-- The words of a grid.
use Rattle.px_state.proofs.Cited.{arith, cases_eq, cases_lt, inl, inr, KeepsOutside, List, lt_true, mul-le-mul_right}
use Rattle.px_state.proofs.Cited.{nat_lt, plane_words, pow_above, power_grows, refl, row_words, sym, whole_words, ℕ}
use Rattle.px_state.proofs.Cited.{◌*◌, ◌+◌, ◌<◌, ◌^◌, ◌∙◌, ◌≡◌, ◌≢◌, ◌≤◌}

-- each word of a row has the same pixels: 64, or all of the row
pub full_law : (nx c i : ℕ) → c < row_words nx → i < 64 → nat_lt i (2 ^ nx) ≡ nat_lt (64 * c + i) (2 ^ nx)
full_law nx c i low within = elim (cases_lt 64 (2 ^ nx)) [
  | inl large ↦
      lt_true i (2 ^ nx) (omega arith)
      ∙ sym (lt_true (64 * c + i) (2 ^ nx) (omega (arith, whole_words nx large)))
  | inr small ↦
      let place : 64 * c + i ≡ i = omega (arith, pow_above nx) in
      rw place refl
]

pub few_words : (nx ny : ℕ) → ny ≤ 9 → row_words nx ≤ 8 → plane_words nx ny ≤ 2 ^ 12
few_words nx ny small few = omega (arith, few, mul-le-mul_right (row_words nx) (power_grows ny 9 small))

-- what two steps keep, one after another
pub kept_both : {from past first end start last : ℕ} {old now new : List ℕ} → KeepsOutside first end old now
    → KeepsOutside start last now new → (from ≤ first) × (end ≤ past) × (from ≤ start) × (last ≤ past)
    → KeepsOutside from past old new
kept_both one two within = grind arith

-- what is in one of n rows, each of so many words, is before the next row, and apart from what is elsewhere
pub plane_end : (b n plane : ℕ) → b < n → b * plane + plane ≤ n * plane
plane_end b n plane below =
    let more : (b + 1) * plane ≤ n * plane = mul-le-mul_right plane (omega arith) in omega (arith, more)

pub apart : (b at plane j k : ℕ) → j < plane → k < plane → b ≢ at → b * plane + j ≢ at * plane + k
apart b at plane j k one two other = grind (arith, plane_end)

pub beside : (b at plane j k : ℕ) → j < plane → k < plane → j ≢ k → b * plane + j ≢ at * plane + k
beside b at plane j k one two other = elim (cases_eq b at) [
  | inl same ↦ rw same (omega (arith, other))
  | inr differ ↦ apart b at plane j k one two differ
]

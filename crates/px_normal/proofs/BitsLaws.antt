-- The bits of sets.
use Rattle.px_num.proofs.Basics.{ℕ, suc, zero, ◌≡◌, ◌<◌, ◌/◌, ◌%◌, ◌^◌, max, ◌==◌, ◌||◌, false, List, [], ◌∷◌, refl, ap}
use Rattle.px_num.proofs.Basics.{◌∙◌, arith, get_or, get_or-set_other, bit_at, get_or-set_at, bit_at_or, bit_at-lt}
use Rattle.px_num.proofs.Basics.{bit_at-zero, cases_eq}
use Rattle.std.proofs.lemmas.Nat.Bits.{bit_at-pow_same, bit_at-pow_other}
use Rattle.px_normal.specs.declared.set.SolidSet.{SolidSet}
use Rattle.px_num.proofs.TruthLaws.{other_false, same_true}
use Rattle.px_normal.specs.Sets.{has, empty, one, sets_joined, joined_word}

word_joined : (a b : SolidSet) (k : ℕ) → k < 4 → get_or (sets_joined a b).words k 0 ≡ joined_word a b k
word_joined a b zero h = refl
word_joined a b (suc zero) h = refl
word_joined a b (suc (suc zero)) h = refl
word_joined a b (suc (suc (suc zero))) h = refl
word_joined a b (suc (suc (suc (suc k)))) h = absurd (omega arith)

either_bit : (u v : ℕ) → u < 2 → v < 2 → (max u v == 1) ≡ ((u == 1) || (v == 1))
either_bit u v p q = grind arith

pub has-joined : (a b : SolidSet) (q : ℕ) → q < 256 → has (sets_joined a b) q ≡ (has a q || has b q)
has-joined a b q h = grind (arith, word_joined, bit_at_or, either_bit, bit_at-lt)

abbrev zeros : List ℕ
zeros = 0 ∷ 0 ∷ 0 ∷ 0 ∷ []

word_of_zeros : (k : ℕ) → ◌≡◌ {A = ℕ} (get_or zeros k 0) 0
word_of_zeros zero = refl
word_of_zeros (suc zero) = refl
word_of_zeros (suc (suc zero)) = refl
word_of_zeros (suc (suc (suc zero))) = refl
word_of_zeros (suc (suc (suc (suc k)))) = refl

power_bit : (k i : ℕ) → (bit_at (2 ^ k) i == 1) ≡ (i == k)
power_bit k i = grind (arith, cases_eq, bit_at-pow_same, same_true, bit_at-pow_other, other_false)

part_test : (p q : ℕ) → p / 64 ≡ q / 64 → (p % 64 == q % 64) ≡ (p == q)
part_test p q d = grind (arith, cases_eq, same_true, other_false)

pub has-one : (q p : ℕ) → q < 256 → has (one q) p ≡ (p == q)
has-one q p hq = grind (arith, cases_eq, get_or-set_at, power_bit, part_test, get_or-set_other, word_of_zeros)

pub has-empty : (p : ℕ) → has empty p ≡ false
has-empty p = ap (λ w. bit_at w (p % 64) == 1) (word_of_zeros (p / 64)) ∙ ap (λ b. b == 1) (bit_at-zero (p % 64))

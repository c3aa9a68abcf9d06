-- Sets have a solid in common where their words have a bit in common.
use Rattle.px_num.proofs.Basics.{rules}
use Rattle.px_num.proofs.Basics.{ℕ, ◌≡◌, ◌<◌, ◌≤◌, ◌+◌, ◌*◌, ◌/◌, ◌%◌, ◌^◌, min, max, nat_eq, ◌==◌, ◌&&◌}
use Rattle.px_num.proofs.Basics.{◌||◌, not, Bool, true, List, [], ◌∷◌, refl, ap, arith, slice_index, bit_and}
use Rattle.px_num.proofs.Basics.{bit_or, list_all, list_any, bit_at, bit_at_and, bit_at_or, bit_at-lt, bit_at-zero}
use Rattle.std.proofs.lemmas.Nat.Bits.{same_from_bits_below}
use Rattle.px_num.proofs.TruthLaws.{never}
use Rattle.px_normal.specs.declared.set.SolidSet.{SolidSet}
use Rattle.px_normal.specs.Sets.{has, solids}
use Rattle.px_normal.proofs.SolidsLaws.{all-each}

-- no solid passes a test where each fails it
pub no_void : (ps : SolidSet) (test : ℕ → Bool) → list_any test (solids ps)
    ≡ not (list_all (λ q. not (test q)) (solids ps))
no_void ps test = none_fails (solids ps) where
  none_fails : (qs : List ℕ) → list_any test qs ≡ not (list_all (λ q. not (test q)) qs)
  none_fails [] = refl
  none_fails (q ∷ qs) = rw (none_fails qs) (de_morgan (test q) (list_all (λ q. not (test q)) qs)) where
    de_morgan : (a b : Bool) → a || not b ≡ not (not a && b)
    de_morgan a b = grind arith

module _ (a b : SolidSet) where
  abbrev shared : ℕ → ℕ → ℕ
  shared k i = min (bit_at (slice_index a.words k) i) (bit_at (slice_index b.words k) i)

  abbrev pub common_word : ℕ → ℕ
  common_word k = bit_and (slice_index a.words k) (slice_index b.words k)

  abbrev pub all_common : ℕ
  all_common = bit_or (bit_or (bit_or (common_word 0) (common_word 1)) (common_word 2)) (common_word 3)

  some_shared : (i : ℕ) → bit_at all_common i ≡ max (max (max (shared 0 i) (shared 1 i)) (shared 2 i)) (shared 3 i)
  some_shared i = grind (arith, bit_at_or, bit_or, bit_at_and, slice_index)

  at_most : (k i : ℕ) → k < 4 → shared k i ≤ bit_at all_common i
  at_most k i lt = grind (arith, some_shared)

  none_shared : (u v : ℕ) → u < 2 → v < 2 → ((u == 1) ≡ true → not (v == 1) ≡ true) → min u v ≡ 0
  none_shared u v p q apart = grind arith

  not_both : (u v : ℕ) → min u v ≤ 0 → (u == 1) ≡ true → not (v == 1) ≡ true
  not_both u v less one = grind arith

  abbrev AreApart : Type 0
  AreApart = list_all (λ q. not (has b q)) (solids a) ≡ true

  place : (k i : ℕ) → i < 64 → ((64 * k + i) / 64 ≡ k) × ((64 * k + i) % 64 ≡ i)
  place k i lt = (omega arith, omega arith)

  word_apart : AreApart → (k i : ℕ) → k < 4 → i < 64 → shared k i ≡ 0
  word_apart apart k i few lt =
      let q = 64 * k + i
      in let here : has a q ≡ true → not (has b q) ≡ true = (all-each (λ q. not (has b q)) a).0 apart q (omega arith)
      in grind (arith, none_shared, bit_at-lt, slice_index, place)

  no_word : all_common < 2 ^ 64 → AreApart → all_common ≡ 0
  no_word small apart = search (rules, same_from_bits_below, some_shared, word_apart, bit_at-zero)

  are_apart : all_common ≡ 0 → AreApart
  are_apart none = (all-each (λ q. not (has b q)) a).1 (λ q lt there.
      not_both _ _ (omega (
        arith,
        at_most (q / 64) (q % 64) (omega arith),
        ap (λ w. bit_at w (q % 64)) none,
        bit_at-zero (q % 64),
      )) there)

  pub meets_is : all_common < 2 ^ 64 → not (nat_eq all_common 0) ≡ list_any (has b) (solids a)
  meets_is small = grind (arith, no_void, no_word, never, are_apart)

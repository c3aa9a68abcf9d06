-- All and some solids of a set.
use Rattle.px_num.proofs.Basics.{rules}
use Rattle.px_num.proofs.Basics.{ℕ, suc, zero, ◌≡◌, ◌<◌, ◌↔◌, ◌==◌, ◌||◌, ◌&&◌, not, Bool, true, false, List, [], ◌∷◌}
use Rattle.px_num.proofs.Basics.{◌++◌, refl, ap, ◌∙◌, arith, inl, inr, list_all, list_any, filter, cases_eq}
use Rattle.px_num.proofs.TruthLaws.{and_left, and_true, or_false, other_false, same_true}
use Rattle.px_normal.specs.declared.set.SolidSet.{SolidSet}
use Rattle.px_normal.specs.SetLaws.{LawsOfSets}
use Rattle.px_normal.specs.Sets.{has, empty, one, sets_joined, below, solids}
use Rattle.px_normal.proofs.BitsLaws.{has-joined, has-one, has-empty}

all_last : (P h : ℕ → Bool) (xs : List ℕ) (n : ℕ) → list_all P (filter h (xs ++ n ∷ [])) ≡ list_all P (filter h xs)
    && (not (h n) || P n)
all_last P h [] n = grind arith
all_last P h (x ∷ xs) n = grind (arith, all_last P h xs n)

pub any_last : (P h : ℕ → Bool) (xs : List ℕ) (n : ℕ) → list_any P (filter h (xs ++ n ∷ [])) ≡ list_any P (filter h xs)
    || (h n && P n)
any_last P h [] n = grind arith
any_last P h (x ∷ xs) n = grind (arith, any_last P h xs n)

-- the test of a join
module _ (P h f g : ℕ → Bool) where
  all_joined : (n : ℕ) → ((q : ℕ) → q < n → h q ≡ f q || g q) → list_all P (filter h (below n))
      ≡ list_all P (filter f (below n)) && list_all P (filter g (below n))
  all_joined zero e = refl
  all_joined (suc n) e =
      all_last P h (below n) n ∙ rw (
        all_joined n (λ q lt. e q (omega arith)),
        e n (omega arith),
        all_last P f (below n) n,
        all_last P g (below n) n,
      )
      (mixed (list_all P (filter f (below n))) (list_all P (filter g (below n))) (f n) (g n) (P n)) where
        mixed : (a b f g p : Bool) → (a && b) && (not (f || g) || p) ≡ (a && (not f || p)) && (b && (not g || p))
        mixed a b f g p = grind arith

  any_joined : (n : ℕ) → ((q : ℕ) → q < n → h q ≡ f q || g q) → list_any P (filter h (below n))
      ≡ list_any P (filter f (below n)) || list_any P (filter g (below n))
  any_joined zero e = refl
  any_joined (suc n) e =
      any_last P h (below n) n ∙ rw (
        any_joined n (λ q lt. e q (omega arith)),
        e n (omega arith),
        any_last P f (below n) n,
        any_last P g (below n) n,
      )
      (mixed (list_any P (filter f (below n))) (list_any P (filter g (below n))) (f n) (g n) (P n)) where
        mixed : (a b f g p : Bool) → (a || b) || ((f || g) && p) ≡ (a || (f && p)) || (b || (g && p))
        mixed a b f g p = grind arith

-- the test of none and of one
module _ (P h : ℕ → Bool) where
  all_none : (n : ℕ) → ((q : ℕ) → q < n → h q ≡ false) → list_all P (filter h (below n)) ≡ true
  all_none zero e = refl
  all_none (suc n) e = all_last P h (below n) n ∙ rw (all_none n (λ q lt. e q (omega arith)), e n (omega arith)) refl

  any_none : (n : ℕ) → ((q : ℕ) → q < n → h q ≡ false) → list_any P (filter h (below n)) ≡ false
  any_none zero e = refl
  any_none (suc n) e = any_last P h (below n) n ∙ rw (any_none n (λ q lt. e q (omega arith)), e n (omega arith)) refl

  all_one : (n a : ℕ) → a < n → ((q : ℕ) → h q ≡ (q == a)) → list_all P (filter h (below n)) ≡ P a
  all_one zero a lt e = absurd (omega arith)
  all_one (suc n) a lt e = all_last P h (below n) n ∙ elim (cases_eq n a) [
    | inl same ↦ rw (all_none n (λ q lt. e q ∙ other_false q a (omega arith)), e n, same_true n a same) (ap P same)
    | inr other ↦ rw (all_one n a (omega arith) e, e n, other_false n a other) (and_true (P a))
  ]

  any_one : (n a : ℕ) → a < n → ((q : ℕ) → h q ≡ (q == a)) → list_any P (filter h (below n)) ≡ P a
  any_one zero a lt e = absurd (omega arith)
  any_one (suc n) a lt e = any_last P h (below n) n ∙ elim (cases_eq n a) [
    | inl same ↦ rw (any_none n (λ q lt. e q ∙ other_false q a (omega arith)), e n, same_true n a same) (ap P same)
    | inr other ↦ rw (any_one n a (omega arith) e, e n, other_false n a other) (or_false (P a))
  ]

-- a test of each solid
module _ (P h : ℕ → Bool) where
  each_passes : (n : ℕ) → list_all P (filter h (below n)) ≡ true → (q : ℕ) → q < n → h q ≡ true → P q ≡ true
  each_passes zero all q lt there = absurd (omega arith)
  each_passes (suc n) all q lt there =
      let both : list_all P (filter h (below n)) && (not (h n) || P n) ≡ true = rw (← all_last P h (below n) n) all
      in elim (cases_eq q n) [
        | inl last ↦ rw last (of_last (list_all P (filter h (below n))) (h n) (P n) both (rw last at there))
        | inr before ↦ each_passes n (and_left (list_all P (filter h (below n))) (not (h n) || P n) both) q
            (omega arith) there
      ] where
        of_last : (a b p : Bool) → a && (not b || p) ≡ true → b ≡ true → p ≡ true
        of_last a b p e f = grind arith

  all_pass : (n : ℕ) → ((q : ℕ) → q < n → h q ≡ true → P q ≡ true) → list_all P (filter h (below n)) ≡ true
  all_pass zero each = refl
  all_pass (suc n) each = all_last P h (below n) n
      ∙ rw (all_pass n (λ q lt. each q (omega arith))) (last (h n) (P n) (each n (omega arith))) where
        last : (b p : Bool) → (b ≡ true → p ≡ true) → true && (not b || p) ≡ true
        last true p e = e refl
        last false p e = refl

module _ (P : ℕ → Bool) where
  pub all-each : (s : SolidSet) → (list_all P (solids s) ≡ true) ↔ ((q : ℕ) → q < 256 → has s q ≡ true → P q ≡ true)
  unfolding solids
  all-each s = (each_passes P (has s) 256, all_pass P (has s) 256)

  pub all-joined : (a b : SolidSet) → list_all P (solids (sets_joined a b)) ≡ list_all P (solids a)
      && list_all P (solids b)
  unfolding solids
  all-joined a b = all_joined P (has (sets_joined a b)) (has a) (has b) 256 (has-joined a b)

  pub any-joined : (a b : SolidSet) → list_any P (solids (sets_joined a b)) ≡ list_any P (solids a)
      || list_any P (solids b)
  unfolding solids
  any-joined a b = any_joined P (has (sets_joined a b)) (has a) (has b) 256 (has-joined a b)

  pub all-empty : list_all P (solids empty) ≡ true
  unfolding solids
  all-empty = all_none P (has empty) 256 (λ q _. has-empty q)

  pub any-empty : list_any P (solids empty) ≡ false
  unfolding solids
  any-empty = any_none P (has empty) 256 (λ q _. has-empty q)

  pub all-one : (q : ℕ) → q < 256 → list_all P (solids (one q)) ≡ P q
  unfolding solids
  all-one q lt = all_one P (has (one q)) 256 q lt (λ p. has-one q p lt)

  pub any-one : (q : ℕ) → q < 256 → list_any P (solids (one q)) ≡ P q
  unfolding solids
  any-one q lt = any_one P (has (one q)) 256 q lt (λ p. has-one q p lt)

pub solids_laws : LawsOfSets
solids_laws = search (rules, all-empty, any-empty, all-one, any-one, all-joined, any-joined, all-each)

-- Folds over places of which at most one does something.
use Rattle.px_num.proofs.Basics.{◌≡◌, ◌<◌, ◌≤◌, ◌+◌, ℕ, zero, suc, Bool, true, false, ◌&&◌, eqb, refl, ap, ◌∙◌, arith}
use Rattle.px_num.proofs.Basics.{inl, inr, if◌then◌else◌, fold, range_with_len, cases_eq, nat_tests}
use Rattle.px_sched.proofs.Words.{and_false, and_true, cond-false, eqb_itself, eqb_other}

pub elsewhere : (m : Bool) (i n k : ℕ) → i < n → n ≤ k → (m && eqb i k) ≡ false
elsewhere true i n k p q = grind (arith, nat_tests)
elsewhere false i n k p q = refl

-- a fold over places of which at most one does something
abbrev pub where_test : {S : Type 0} → (ℕ → Bool) → (S → ℕ → S) → S → ℕ → S
where_test t f s i = if t i then f s i else s

pub fold_none : {S : Type 0} (t : ℕ → Bool) (f : S → ℕ → S) (s : S) (a n : ℕ)
    → ((i : ℕ) → a ≤ i → i < a + n → t i ≡ false) → fold (where_test t f) s (range_with_len a n) ≡ s
fold_none t f s a zero none = refl
fold_none t f s a (suc n) none =
    ap (λ v. fold (where_test t f) v (range_with_len (a + 1) n))
    (cond-false (t a) (f s a) s (none a (omega arith) (omega arith)))
    ∙ fold_none t f s (a + 1) n (λ i p q. none i (omega arith) (omega arith))

pub fold_single : {S : Type 0} (t : ℕ → Bool) (f : S → ℕ → S) (s : S) (a n k : ℕ) (g : Bool)
    → ((i : ℕ) → a ≤ i → i < a + n → t i ≡ (g && eqb i k)) → a ≤ k → k < a + n
    → fold (where_test t f) s (range_with_len a n) ≡ (if g then f s k else s)
fold_single t f s a zero k g one low high = absurd (omega arith)
fold_single t f s a (suc n) k g one low high = elim (cases_eq a k) [
  | inl e ↦ grind (arith, eqb_itself, and_true, fold_none, eqb_other, and_false)
  | inr ne ↦
      let here : t a ≡ false = one a (omega arith) (omega arith) ∙ rw (eqb_other a k ne) (and_false g) in
      ap (λ v. fold (where_test t f) v (range_with_len (a + 1) n)) (cond-false (t a) (f s a) s here)
      ∙ fold_single t f s (a + 1) n k g (λ i p q. one i (omega arith) (omega arith)) (omega arith) (omega arith)
]

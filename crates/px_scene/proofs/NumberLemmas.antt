-- Face numbers run on when a solid or a face comes behind the others.
use Rattle.px_num.proofs.Basics.{common_steps, suc, nat_tests, ◌≡◌, ℕ, ◌+◌, ◌<◌, ◌≤◌, ◌==◌, List, [], ◌∷◌, ◌++◌, false}
use Rattle.px_num.proofs.Basics.{◌||◌, refl, arith, length-append, inl, inr, ◌⊎◌, subst, cases_eq, All}
use Rattle.px_scene.proofs.Words.{AreNumberedFrom, Face, faces_in, faces_of, faces_of-cons, has_number, IsNumberedFrom}
use Rattle.px_scene.proofs.Words.{SolidView}

has_number-push : (faces : List Face) (f : Face) (n : ℕ) → has_number (faces ++ f ∷ []) n
    ≡ (has_number faces n || f.number == n)
has_number-push [] f n = grind arith
has_number-push (g ∷ gs) f n = grind (arith, has_number-push gs f n)

-- a number that no face reaches
has_number-above : (faces : List Face) (m n : ℕ) → All (λ f. f.number < m) faces → m ≤ n → has_number faces n ≡ false
has_number-above [] m n all le = refl
has_number-above (f ∷ fs) m n all le =
    let here : f.number < m = all 0 f (omega arith)
    in let later = has_number-above fs m n (λ k d lt. all (suc k) d (omega arith)) le
    in grind (arith, nat_tests)

weaker : (faces : List Face) (m n : ℕ) → m ≤ n → All (λ f. f.number < m) faces → All (λ f. f.number < n) faces
weaker faces m n le all k d lt = let here = all k d lt in omega arith

-- a test of the next number, by cases
next_or_before : (m n : ℕ) → n < m + 1 → (n ≡ m) ⊎ (n < m)
next_or_before m n lt = elim (cases_eq n m) [ inl e ↦ inl e | inr ne ↦ inr (omega arith) ]

-- a front of the next number
pub numbered_front : (first : ℕ) (s : SolidView) (f : Face) → IsNumberedFrom first s → f.number ≡ first + faces_in s
    → IsNumberedFrom first (record s { fronts = s.fronts ++ f ∷ [] })
numbered_front first s f is e =
    grind (arith, nat_tests, common_steps, length-append, weaker, next_or_before, has_number-push, has_number-above)

-- a back of the next number
pub numbered_back : (first : ℕ) (s : SolidView) (f : Face) → IsNumberedFrom first s → f.number ≡ first + faces_in s
    → IsNumberedFrom first (record s { backs = s.backs ++ f ∷ [] })
numbered_back first s f is e =
    grind (arith, nat_tests, common_steps, length-append, weaker, next_or_before, has_number-push, has_number-above)

pub numbered_push : (first : ℕ) (ss : List SolidView) (s : SolidView) → AreNumberedFrom first ss
    → IsNumberedFrom (first + faces_of ss) s → AreNumberedFrom first (ss ++ s ∷ [])
numbered_push first [] s are is = (subst (λ (n : ℕ). IsNumberedFrom n s) (omega arith) is, tt)
numbered_push first (q ∷ qs) s are is =
    let counted : faces_of (q ∷ qs) ≡ faces_in q + faces_of qs = faces_of-cons q qs
    in (are.0, numbered_push (first + faces_in q) qs s are.1 (subst (λ (n : ℕ). IsNumberedFrom n s) (omega arith) is))

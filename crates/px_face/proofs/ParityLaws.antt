-- A truth that is turned at each thing counted says whether their number is odd.
use Rattle.px_num.proofs.Basics.{◌≡◌, ◌∙◌, ℕ, ◌+◌, Bool, true, false, not, List, [], ◌∷◌, cond, count_by, if◌then◌else◌}
use Rattle.px_num.proofs.Basics.{ap, refl, sym, arith, fold, nat_tests, sum_by-append}
use Rattle.px_face.specs.Covering.{is_odd}

abbrev pub turned_where : (ℕ → Bool) → Bool → ℕ → Bool
turned_where test odd place = if test place then not odd else odd

pub count_by-cons : {X : Type 0} (test : X → Bool) (x : X) (xs : List X) →
    count_by test (x ∷ xs) ≡ cond (test x) 1 0 + count_by test xs
count_by-cons test x xs = sum_by-append (λ y. cond (test y) 1 0) (x ∷ []) xs ∙ omega arith

odd_next : (n : ℕ) → is_odd (1 + n) ≡ not (is_odd n)
odd_next n = grind (arith, nat_tests)

turns : (b odd : Bool) → (if not b then not odd else odd) ≡ (if b then not (not odd) else not odd)
turns b odd = grind arith

pub turned_is_odd : (test : ℕ → Bool) (odd : Bool) (places : List ℕ) →
    fold (turned_where test) odd places ≡ (if is_odd (count_by test places) then not odd else odd)
turned_is_odd test odd [] = refl
turned_is_odd test odd (place ∷ places) =
    by_test (test place) odd (λ first. turned_is_odd test first places)
    ∙ ap (λ n. if is_odd n then not odd else odd) (sym (count_by-cons test place places))
  where
    by_test : (b odd : Bool) → ((first : Bool) → fold (turned_where test) first places
        ≡ (if is_odd (count_by test places) then not first else first))
        → fold (turned_where test) (if b then not odd else odd) places
        ≡ (if is_odd (cond b 1 0 + count_by test places) then not odd else odd)
    by_test true odd later =
        later (not odd) ∙ sym (rw (odd_next (count_by test places)) (turns (is_odd (count_by test places)) odd))
    by_test false odd later = later odd ∙ ap (λ n. if is_odd n then not odd else odd) (omega arith)

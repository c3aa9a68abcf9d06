-- Laws of numbers in a row, and of what is made of them.
use Rattle.px_num.proofs.Basics.{◌≡◌, ℕ, zero, suc, ◌+◌, ◌<◌, ◌≤◌, List, [], ◌∷◌, ◌++◌, refl, ap, ◌∙◌, arith, All-cons}
use Rattle.px_num.proofs.Basics.{All-nil, All, flat_map, range_with_len}

-- some numbers, and so many more
pub range_cut : (a n m : ℕ) → range_with_len a (n + m) ≡ range_with_len a n ++ range_with_len (a + n) m
range_cut a zero m = grind arith
range_cut a (suc n) m =
    let next : a + 1 + n ≡ a + suc n = omega arith in
    let all : suc n + m ≡ suc (n + m) = omega arith in
    let others = ap (λ b. range_with_len (a + 1) n ++ range_with_len b m) next in
    rw all (ap (λ ns. a ∷ ns) (range_cut (a + 1) n m ∙ others))

-- the last number
pub range_more : (a n : ℕ) → range_with_len a (suc n) ≡ range_with_len a n ++ (a + n) ∷ []
range_more a n = let more : suc n ≡ n + 1 = omega arith in ap (range_with_len a) more ∙ range_cut a n 1

-- what holds of each number
pub range_all : (P : ℕ → Type 0) (a n : ℕ) → ((i : ℕ) → a ≤ i → i < a + n → P i) → All P (range_with_len a n)
range_all P a zero each = All-nil P
range_all P a (suc n) each = All-cons P a (range_with_len (a + 1) n) (each a (omega arith) (omega arith))
    (range_all P (a + 1) n (λ i low high. each i (omega arith) (omega arith)))

-- what is made of the numbers, where each of them makes the same
pub same_parts : {A : Type 0} (f g : ℕ → List A) (from count : ℕ) → ((k : ℕ) → from ≤ k → k < from + count → f k ≡ g k)
    → flat_map f (range_with_len from count) ≡ flat_map g (range_with_len from count)
same_parts f g from zero same = refl
same_parts f g from (suc count) same =
    let others = same_parts f g (from + 1) count (λ k low high. same k (omega arith) (omega arith)) in
    rw (same from (omega arith) (omega arith), others) refl

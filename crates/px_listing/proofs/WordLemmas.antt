-- The words of a line, and the numbers that they write.
use Rattle.px_num.proofs.Basics.{nat_tests, common_steps, zero, suc, All, true, false, min, if◌then◌else◌, ◌≡◌, ℕ, ℤ}
use Rattle.px_num.proofs.Basics.{pos, ◌+◌, ◌<◌, ◌^◌, ◌∷◌, [], ◌++◌, ◌&&◌, List, Bool, Option, Some, None, length, take}
use Rattle.px_num.proofs.Basics.{get_or, is_some, unwrap_or, ap, subst, ◌∙◌, arith, ◌≤◌, Bor, ints, get_or-map}
use Rattle.px_num.proofs.Basics.{length-map, take_all, take_more}
use Rattle.px_listing.proofs.Words.{are_numbers, IsWithin, negative, now_of, number_of, numbers_of, positive, Words}
use Rattle.std.proofs.lemmas.List.Folds.{list_all_more}

-- whether one more word is a number
pub numeric_more : (words : List (Bor (List ℕ))) (i : ℕ) (w : Bor (List ℕ)) → i < length words
    → are_numbers (take (i + 1) (now_of words))
    ≡ (are_numbers (take i (now_of words)) && is_some (number_of (get_or words i w).now))
numeric_more words i w lt =
    list_all_more (λ v. is_some (number_of v)) (now_of words) i [] (omega (arith, length-map words (λ v. v.now)))
    ∙ ap (λ v. are_numbers (take i (now_of words)) && is_some (number_of v)) (get_or-map (λ v. v.now) words i w [] lt)

-- the number of one more word
pub one_more : (words : List (Bor (List ℕ))) (i : ℕ) (w : Bor (List ℕ)) → i < length words
    → take (i + 1) (numbers_of (now_of words)) ≡ take i (numbers_of (now_of words))
    ++ unwrap_or (number_of (get_or words i w).now) (pos 0) ∷ []
one_more words i w lt =
    let within : i < length (now_of words) = omega (arith, length-map words (λ v. v.now)) in
    let there = get_or-map (λ v. unwrap_or (number_of v) (pos 0)) (now_of words) i [] (pos 0) within
    ∙ ap (λ v. unwrap_or (number_of v) (pos 0)) (get_or-map (λ v. v.now) words i w [] lt) in
    grind (arith, take_more, length-map, unwrap_or)

-- no number is greater than 10 ^ 18 in size
abbrev pub IsSmall : ℤ → Type 0
IsSmall z = IsWithin (10 ^ 18) z

of_digits : (test : Bool) (n : ℕ) → IsSmall (unwrap_or (positive (if test then Some (min n (10 ^ 18)) else None))
    (pos 0))
of_digits true n = (omega (arith, ints), omega (arith, ints))
of_digits false n = (omega (arith, ints), omega (arith, ints))

of_negative : (test : Bool) (n : ℕ) → IsSmall (unwrap_or (negative (if test then Some (min n (10 ^ 18)) else None))
    (pos 0))
of_negative true n = (omega (arith, ints), omega (arith, ints))
of_negative false n = (omega (arith, ints), omega (arith, ints))

by_sign : (sign : Bool) (x y : Option ℤ) → IsSmall (unwrap_or x (pos 0)) → IsSmall (unwrap_or y (pos 0))
    → IsSmall (unwrap_or (if sign then x else y) (pos 0))
by_sign true x y p q = p
by_sign false x y p q = q

is_small : (w : List ℕ) → IsSmall (unwrap_or (number_of w) (pos 0))
is_small [] = (omega (arith, ints), omega (arith, ints))
is_small (b ∷ bs) = grind (arith, by_sign, of_negative, of_digits)

small_of : (w : List ℕ) (z : ℤ) → number_of w ≡ Some z → IsSmall z
small_of w z is = subst (λ o. IsSmall (unwrap_or o (pos 0))) is (is_small w)

pub are_small : (ws : Words) → All IsSmall (numbers_of ws)
are_small [] k d low = absurd (omega arith)
are_small (w ∷ ws) zero d low = is_small w
are_small (w ∷ ws) (suc k) d low = are_small ws k d (omega arith)

-- the numbers of so many words
pub record AreReadTo (words : List (Bor (List ℕ))) (numbers : List ℤ) (i : ℕ) : Type 0 where
  pub each : are_numbers (take i (now_of words)) ≡ true
  pub value : numbers ≡ take i (numbers_of (now_of words))

pub read_more : (words : List (Bor (List ℕ))) (numbers new : List ℤ) (i : ℕ) (w : Bor (List ℕ)) (z y : ℤ)
    → AreReadTo words numbers i → i < length words → number_of (get_or words i w).now ≡ Some z
    → (IsSmall z → y ≡ z) → new ≡ numbers ++ y ∷ [] → AreReadTo words new (i + 1)
read_more words numbers new i w z y so lt is kept pushed =
    grind (arith, nat_tests, common_steps, numeric_more, small_of, one_more)

pub read_whole : (words : List (Bor (List ℕ))) (numbers : List ℤ) (i : ℕ) → AreReadTo words numbers i
    → length words ≤ i → (are_numbers (now_of words) ≡ true) × (numbers ≡ numbers_of (now_of words))
read_whole words numbers i so past = grind (arith, take_all, length-map, unwrap_or)

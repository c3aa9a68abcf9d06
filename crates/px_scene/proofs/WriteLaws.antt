-- Lists of lines, one line more.
use Rattle.px_num.proofs.Basics.{nat_tests, common_steps, flat_map-append, ◌≡◌, ℕ, ◌+◌, ◌<◌, List, [], ◌∷◌, ◌++◌}
use Rattle.px_num.proofs.Basics.{length, take, slice_index_or, ap, ◌∙◌, arith, append_assoc, append-nil}
use Rattle.px_num.proofs.Basics.{zero, suc, flat_map, range_with_len, take_more}

one_more : (f : ℕ → List ℕ) (a n : ℕ)
    → flat_map f (range_with_len a (suc n)) ≡ flat_map f (range_with_len a n) ++ f (a + n)
one_more f a zero = append-nil (f a) ∙ ap f (omega arith)
one_more f a (suc n) = grind (arith, append_assoc, one_more f (a + 1) n)

-- what a list of numbers gives, with the next number
pub next_number : (f : ℕ → List ℕ) (a n m : ℕ) (start now new : List ℕ) → now ≡ start ++ flat_map f (range_with_len a n)
    → m ≡ a + n → new ≡ now ++ f m → new ≡ start ++ flat_map f (range_with_len a (n + 1))
next_number f a n m start now new is at more = grind (arith, append_assoc, one_more)

-- the first ones of a list, with the next one
pub next_taken : {X : Type 0} (xs items : List X) (i : ℕ) (x : X) → items ≡ xs → i < length items
    → x ≡ slice_index_or items i x → take (i + 1) xs ≡ take i xs ++ x ∷ []
next_taken xs items i x are within is = grind (arith, take_more)

-- what they give
pub next_item : {X : Type 0} (f : X → List ℕ) (xs items : List X) (i : ℕ) (x : X) (start now new : List ℕ) → items ≡ xs
    → i < length items → x ≡ slice_index_or items i x
    → now ≡ start ++ flat_map f (take i xs) → new ≡ now ++ f x → new ≡ start ++ flat_map f (take (i + 1) xs)
next_item f xs items i x start now new are within is before more =
    grind (arith, nat_tests, common_steps, append_assoc, append-nil, flat_map-append, next_taken)

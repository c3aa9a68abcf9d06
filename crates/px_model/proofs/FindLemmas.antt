-- What is first found in the parts of a list, one after another.
use Rattle.px_num.proofs.Basics.{◌≡◌, ℕ, zero, suc, ◌+◌, ◌-◌, ◌<◌, List, [], ◌∷◌, ◌++◌, All, length, drop, find, get_or}
use Rattle.px_num.proofs.Basics.{map, Bool, true, false, cond, Option, Some, None, is_some, refl, sym, ◌∙◌, arith}
use Rattle.px_num.proofs.Basics.{drop-cons, find-append, flat_map, range_with_len, option_or}
use Rattle.px_num.proofs.TruthLaws.{none_first, none_second}

-- what is made of an element goes first, then what is made of the later ones
module _ {X Y A : Type 0} (test : A → Bool) (f : Y → List A) (g : X → Y) where
  both : (xs : List X) (i : ℕ) (d : X) → i < length xs → find test (flat_map f (map g (drop i xs)))
      ≡ option_or (find test (f (g (get_or xs i d)))) (find test (flat_map f (map g (drop (i + 1) xs))))
  both xs i d within = grind (arith, find, drop-cons, find-append)

  pub found_first : (xs : List X) (i : ℕ) (d : X) (o : Option A) → i < length xs
      → o ≡ find test (f (g (get_or xs i d))) → is_some o ≡ true → o ≡ find test (flat_map f (map g (drop i xs)))
  found_first xs i d None within is some = absurd cc
  found_first xs i d (Some a) within is some = sym (both xs i d within ∙ rw (sym is) refl)

  pub found_later : (xs : List X) (i : ℕ) (d : X) (o : Option A) → i < length xs
      → o ≡ find test (f (g (get_or xs i d))) → is_some o ≡ false
      → find test (flat_map f (map g (drop i xs))) ≡ find test (flat_map f (map g (drop (i + 1) xs)))
  found_later xs i d (Some a) within is none = absurd cc
  found_later xs i d None within is none = both xs i d within ∙ rw (sym is) refl

-- the same of numbers up to one
module _ {A : Type 0} (test : A → Bool) (f : ℕ → List A) where
  each : (n end : ℕ) → n < end → find test (flat_map f (range_with_len n (end - n)))
      ≡ option_or (find test (f n)) (find test (flat_map f (range_with_len (n + 1) (end - (n + 1)))))
  each n end within = grind (arith, find, find-append)

  pub number_first : (n end : ℕ) (o : Option A) → n < end → o ≡ find test (f n) → is_some o ≡ true
      → o ≡ find test (flat_map f (range_with_len n (end - n)))
  number_first n end x within is some = grind (arith, each)

  pub number_later : (n end : ℕ) (o : Option A) → n < end → o ≡ find test (f n) → is_some o ≡ false
      → find test (flat_map f (range_with_len n (end - n)))
      ≡ find test (flat_map f (range_with_len (n + 1) (end - (n + 1))))
  number_later n end x within is none = grind (arith, each)

pub none_before : {A : Type 0} (test : A → Bool) (xs ys : List A) → find test (xs ++ ys) ≡ None → find test xs ≡ None
none_before test xs ys none = none_first (find test xs) (find test ys) (sym (find-append test xs ys) ∙ none)

pub none_behind : {A : Type 0} (test : A → Bool) (xs ys : List A) → find test (xs ++ ys) ≡ None → find test ys ≡ None
none_behind test xs ys none = none_second (find test xs) (find test ys) (sym (find-append test xs ys) ∙ none)

pub none_in_each : {X A : Type 0} (test : A → Bool) (f : X → List A) (xs : List X) → find test (flat_map f xs) ≡ None
    → All (λ x. find test (f x) ≡ None) xs
none_in_each test f [] none k d within = absurd (omega arith)
none_in_each test f (x ∷ xs) none zero d within = none_before test (f x) (flat_map f xs) none
none_in_each test f (x ∷ xs) none (suc k) d within =
    none_in_each test f xs (none_behind test (f x) (flat_map f xs) none) k d (omega arith)

failed : {A : Type 0} (b : Bool) (a : A) (o : Option A) → cond b (Some a) o ≡ None → b ≡ false
failed true a o e = cc
failed false a o e = refl

rest : {A : Type 0} (b : Bool) (a : A) (o : Option A) → cond b (Some a) o ≡ None → o ≡ None
rest true a o e = cc
rest false a o e = e

pub none_passes : {A : Type 0} (test : A → Bool) (xs : List A) → find test xs ≡ None → All (λ x. test x ≡ false) xs
none_passes test [] none k d within = absurd (omega arith)
none_passes test (x ∷ xs) none zero d within = failed (test x) x (find test xs) none
none_passes test (x ∷ xs) none (suc k) d within =
    none_passes test xs (rest (test x) x (find test xs) none) k d (omega arith)

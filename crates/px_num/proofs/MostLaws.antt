-- The greatest and the least of whole numbers, by tests of each of them.
use Rattle.px_num.proofs.Basics.{ℤ, ◌≡◌, ◌&&◌, Bool, List, [], ◌∷◌, ap, sym, arith, map, fold, fun_ext, int_max}
use Rattle.px_num.proofs.Basics.{int_min, list_all, ints}
use Rattle.px_num.proofs.TruthLaws.{and_both, and_true}
use lib.Signed.{lt_z, le_z}

pub all_same : {X : Type 0} (p q : X → Bool) → ((x : X) → p x ≡ q x) → (xs : List X) → list_all p xs ≡ list_all q xs
all_same p q h xs = ap (λ test. list_all test xs) (fun_ext h)

pub and_max : (a b z : ℤ) → le_z (int_max a b) z ≡ (le_z a z && le_z b z)
and_max a b z = grind (arith, ints)

pub and_min : (a b z : ℤ) → lt_z z (int_min a b) ≡ (lt_z z a && lt_z z b)
and_min a b z = grind (arith, ints)

pub all_max : {X : Type 0} (v : X → ℤ) (xs : List X) (m z : ℤ) → le_z (fold int_max m (map v xs)) z
    ≡ (le_z m z && list_all (λ x. le_z (v x) z) xs)
all_max v [] m z = sym (and_true (le_z m z))
all_max v (x ∷ xs) m z = grind (arith, and_max, and_both, all_max v xs (int_max m (v x)) z)

pub all_min : {X : Type 0} (v : X → ℤ) (xs : List X) (m z : ℤ) → lt_z z (fold int_min m (map v xs))
    ≡ (lt_z z m && list_all (λ x. lt_z z (v x)) xs)
all_min v [] m z = sym (and_true (lt_z z m))
all_min v (x ∷ xs) m z = grind (arith, and_min, and_both, all_min v xs (int_min m (v x)) z)

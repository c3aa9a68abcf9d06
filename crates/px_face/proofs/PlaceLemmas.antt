-- The place of the greatest number: above all before it, and at least all after it.
use Rattle.px_num.proofs.Basics.{◌≡◌, ◌<◌, ◌≤◌, ℕ, zero, suc, ℤ, Bool, true, false, ◌&&◌, List, [], ◌∷◌}
use Rattle.px_num.proofs.Basics.{length, take, drop, get_or, eqb, ap, sym, ◌∙◌, arith, inl, inr, list_all, ints}
use Rattle.px_num.proofs.Basics.{cases_Bool, if◌then◌else◌, nat_tests}
use Rattle.px_face.proofs.Words.{and_both, and_left, and_right, and_true, greatest_place, le_z, lt_z}

-- v is above those before it, and at least those after it
abbrev pub is_first_greatest : List ℤ → ℤ → List ℤ → Bool
is_first_greatest before v after = list_all (λ u. lt_z u v) before && list_all (λ u. le_z u v) after

-- g is the greatest of some, of which all are at most v or not, and at most z or not
step_to : (v z g : ℤ) (low under : Bool) → le_z g v ≡ under → le_z g z ≡ low
    → le_z (if under then v else g) z ≡ (le_z v z && low)
step_to v z g low true e is = grind (arith, ints)
step_to v z g low false e is = grind (arith, ints)

greatest_cons : (v : ℤ) (vs : List ℤ) (d z : ℤ) → le_z (get_or (v ∷ vs) (greatest_place (v ∷ vs)) d) z
    ≡ list_all (λ u. le_z u z) (v ∷ vs)
greatest_cons v [] d z = sym (and_true (le_z v z))
greatest_cons v (w ∷ ws) d z = grind (arith, greatest_cons w ws d v, greatest_cons w ws d z, step_to, cases_Bool)

-- the greatest is at most z exactly where all are
pub greatest_bounds : (vs : List ℤ) (d z : ℤ) → 0 < length vs → le_z (get_or vs (greatest_place vs) d) z
    ≡ list_all (λ u. le_z u z) vs
greatest_bounds [] d z some = absurd (omega arith)
greatest_bounds (v ∷ vs) d z some = greatest_cons v vs d z

cons_there : (v : ℤ) (vs : List ℤ) → greatest_place (v ∷ vs) ≤ length vs
cons_there v [] = omega arith
cons_there v (w ∷ ws) = grind (arith, cons_there w ws)

pub greatest_there : (vs : List ℤ) → 0 < length vs → greatest_place vs < length vs
greatest_there [] some = absurd (omega arith)
greatest_there (v ∷ vs) some = omega (arith, cons_there v vs)

-- no number before the first greatest is as great
pub greatest_first : (vs : List ℤ) (i : ℕ) (d : ℤ) → i < length vs → list_all (λ u. le_z u (get_or vs i d)) vs ≡ true
    → greatest_place vs ≤ i
greatest_first [] i d low all = absurd (omega arith)
greatest_first (v ∷ vs) zero d low all = rw (and_right (le_z v v) (list_all (λ u. le_z u v) vs) all) (omega arith)
greatest_first (v ∷ vs) (suc i) d low all =
    let later : greatest_place vs ≤ i =
    greatest_first vs i d (omega arith)
    (and_right (le_z v (get_or vs i d)) (list_all (λ u. le_z u (get_or vs i d)) vs) all) in
    grind arith

at_most : (vs : List ℤ) (v : ℤ) (i : ℕ) (d : ℤ) → i < length vs → list_all (λ u. le_z u v) vs ≡ true
    → lt_z v (get_or vs i d) ≡ false
at_most [] v i d h all = absurd (omega arith)
at_most (u ∷ us) v zero d h all = grind (arith, and_left)
at_most (u ∷ us) v (suc i) d h all =
    at_most us v i d (omega arith) (and_right (le_z u v) (list_all (λ w. le_z w v) us) all)

over : (v t : ℤ) → le_z t v ≡ false → lt_z v t ≡ true
over v t h = grind (arith, ints)

next : (i k : ℕ) (b : Bool) → (i ≡ k → b ≡ true) → (b && eqb i k) ≡ eqb (suc i) (suc k)
next i k b h = grind (arith, nat_tests)

-- exactly one place is above all before it and at least all after it
pub greatest_only : (vs : List ℤ) (i : ℕ) (d : ℤ) → i < length vs → is_first_greatest (take i vs) (get_or vs i d)
    (drop (suc i) vs) ≡ eqb i (greatest_place vs)
greatest_only [] i d h = absurd (omega arith)
greatest_only (v ∷ vs) zero d h = grind (arith, nat_tests)
greatest_only (v ∷ []) (suc i) d h = absurd (omega arith)
greatest_only (v ∷ w ∷ ws) (suc i) d h =
    let vs = w ∷ ws in
    let u = get_or vs i d in
    let here : is_first_greatest (take i vs) u (drop (suc i) vs) ≡ eqb i (greatest_place vs) =
    greatest_only (w ∷ ws) i d (omega arith) in
    and_both (lt_z v u) (list_all (λ y. lt_z y u) (take i vs)) (list_all (λ y. le_z y u) (drop (suc i) vs))
    ∙ ap (λ b. lt_z v u && b) here
    ∙ elim (cases_Bool (list_all (λ y. le_z y v) vs)) [
      | inl all ↦ rw (at_most vs v i d (omega arith) all, all) (grind (arith, nat_tests))
      | inr some ↦ rw some (next i (greatest_place vs) (lt_z v u) (λ e. ap (λ j. lt_z v (get_or vs j d)) e
          ∙ over v (get_or vs (greatest_place vs) d) (greatest_cons w ws d v ∙ some)))
    ]

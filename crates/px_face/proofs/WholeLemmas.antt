-- Without a fraction the cells of a solid are its values, and the faces at a cell are those whose value it is.
use Rattle.px_num.proofs.Basics.{◌≡◌, ◌≤◌, ◌≤ℤ◌, ◌==◌, ℕ, zero, suc, ℤ, pos, negsuc, Bool, true, false, ◌&&◌, List, []}
use Rattle.px_num.proofs.Basics.{◌∷◌, ◌++◌, refl, ap, sym, ◌∙◌, arith, inl, inr, if◌then◌else◌, list_all, int_eq, ints}
use Rattle.px_num.proofs.Basics.{cases_Bool, cases_eq, nat_tests}
use Rattle.px_face.proofs.Words.{all_max, all_min, and_left, and_right, cell_of, cell_whole, depths, Depths, end_of}
use Rattle.px_face.proofs.Words.{enters_at, Face, faces_at, first_of_three, int_eq_holds, is_inside, is_inside_at}
use Rattle.px_face.proofs.Words.{is_met, itself_true, le_z, leaves_at, lt_z, SolidView, third_of_three, value_at}
use Rattle.px_face.proofs.Words.{value_whole}
use Rattle.px_face.specs.WholeLaws.{WholeBacks, WholeFronts}
use Rattle.px_face.proofs.DepthLaws.{cells_are, depths_are, le_same}

no_faces : (t : ℤ → Bool) (fs : List Face) (x y : ℕ) (v : ℤ) → list_all (λ f. t (value_at f.plane x y)) fs ≡ true
    → t v ≡ false → faces_at fs x y v ≡ []
no_faces t [] x y v all out = refl
no_faces t (f ∷ fs) x y v all out =
    let w = value_at f.plane x y in
    let rest = and_right (t w) (list_all (λ g. t (value_at g.plane x y)) fs) all in
    elim (cases_Bool (int_eq w v)) [
      | inl same ↦
          cc (ap t (int_eq_holds w v same), out, and_left (t w) (list_all (λ g. t (value_at g.plane x y)) fs) all)
      | inr other ↦ rw other (no_faces t fs x y v rest out)
    ]

module _ (s : SolidView) (far x y : ℕ) where
  abbrev d : Depths
  d = depths far 0

  pub inside_whole : (z : ℕ) → is_inside s d x y z ≡ is_inside_at s far x y z
  inside_whole z = let e : end_of d ≡ far = value_whole far far in rw (e, value_whole far z) refl

same_near : (z : ℕ) → int_eq (pos 0) (pos z) ≡ (z == 0)
same_near z = grind (arith, nat_tests, ints)

unequal : (n z : ℕ) → (n ≡ z → ⊥) → (n == z) ≡ false
unequal n z h = grind (arith, nat_tests)

below_is : (n z : ℕ) → le_z (pos n) (pos z) ≡ true → n ≤ z
below_is n z h = grind (arith, ints)

module _ (far near : ℕ) (fs : List Face) (x y z : ℕ) where
  fronts_by_value : (e : ℤ) → pos 0 ≤ℤ e → le_z e (pos z) ≡ true → list_all (λ f. le_z (value_at f.plane x y) e)
      fs ≡ true
      → (if cell_of (depths far 0) e == z then (if int_eq (pos 0) e then near ∷ [] else []) ++ faces_at fs x y e
      else [])
      ≡ (if z == 0 then near ∷ [] else []) ++ faces_at fs x y (pos z)
  fronts_by_value (negsuc n) some low all = absurd (omega (arith, ints))
  fronts_by_value (pos n) some low all = rw (cell_whole far n) (elim (cases_eq n z) [
    | inl same ↦ rw (same, itself_true z, same_near z) refl
    | inr other ↦
        let le = below_is n z low in
        rw (
          unequal n z other,
          unequal z 0 (λ e. omega arith),
          no_faces (λ v. le_z v (pos n)) fs x y (pos z) all
              (grind (arith, ints)),
        ) refl
  ])

  backs_by_value : (l : ℤ) → lt_z (pos z) l ≡ true
      → (lt_z (pos (suc z)) l ≡ true → list_all (λ b. lt_z (pos (suc z)) (value_at b.plane x y)) fs ≡ true)
      → (if cell_of (depths far 0) l == suc z then faces_at fs x y l else []) ≡ faces_at fs x y (pos (suc z))
  backs_by_value (negsuc n) some all = cc some
  backs_by_value (pos n) some all = rw (cell_whole far n) (elim (cases_eq n (suc z)) [
    | inl same ↦ rw (same, itself_true (suc z)) refl
    | inr other ↦
        rw (
          unequal n (suc z) other,
          no_faces (λ v. lt_z (pos (suc z)) v) fs x y (pos (suc z))
              (all (grind (arith, ints))) (grind (arith, ints)),
        ) refl
  ])

second_of : (a b c : Bool) → (a && b && c) ≡ true → b ≡ true
second_of a b c h = grind arith

pub whole_fronts : WholeFronts
whole_fronts s far x y z inside =
    let e = enters_at s x y in
    let met = is_met s far x y in
    let all = sym (cells_are s far x y z) ∙ sym (inside_whole s far x y z) ∙ inside in
    let is = first_of_three met (le_z e (pos z)) (lt_z (pos z) (leaves_at s far x y)) all in
    fronts_by_value far s.near_number s.fronts x y z e (depths_are s far x y is).0
    (second_of met (le_z e (pos z)) (lt_z (pos z) (leaves_at s far x y)) all)
    (and_right (le_z (pos 0) e) (list_all (λ f. le_z (value_at f.plane x y) e) s.fronts)
    (sym (all_max (λ f. value_at f.plane x y) s.fronts (pos 0) e) ∙ le_same e))

pub whole_backs : WholeBacks
whole_backs s far x y zero = refl
whole_backs s far x y (suc z) = elim (cases_Bool (is_inside s (depths far 0) x y z)) [
  | inl inside ↦
      let l = leaves_at s far x y in
      let met = is_met s far x y in
      let all = sym (cells_are s far x y z) ∙ sym (inside_whole s far x y z) ∙ inside in
      let e : end_of (depths far 0) ≡ far = value_whole far far in
      rw inside (ap (λ end. if cell_of (depths far 0) (leaves_at s end x y) == suc z then faces_at s.backs x y
      (leaves_at s end x y) else []) e
      ∙ backs_by_value far 0 s.backs x y z l (third_of_three met (le_z (enters_at s x y) (pos z)) (lt_z (pos z) l) all)
      (λ past. and_right (lt_z (pos (suc z)) (pos far)) (list_all (λ b. lt_z (pos (suc z)) (value_at b.plane x y))
      s.backs) (sym (all_min (λ f. value_at f.plane x y) s.backs (pos far) (pos (suc z))) ∙ past)))
  | inr outside ↦ rw outside refl
]

-- Where a ray enters a solid and leaves it: the greatest front and the least back, as tests of all fronts and backs.
use Rattle.px_num.proofs.Basics.{◌≡◌, ◌-ℤ◌, ◌≤ℤ◌, ◌<ℤ◌, ℕ, ℤ, pos, neg_ℤ, Bool, true, false, ◌&&◌, map, nat_lt, refl}
use Rattle.px_num.proofs.Basics.{sym, ◌∙◌, arith, list_all, ints, list_all-append, list_all-map}
use Rattle.px_face.proofs.Words.{all_max, all_min, all_same, back_planes, enters_at, front_planes, hold_at}
use Rattle.px_face.proofs.Words.{is_inside_at, is_met, le_z, leaves_at, level, Linear, lt_z, SolidView, value_at}
use Rattle.std.proofs.lemmas.Int.{fold-int_max_bounds, fold-int_min_bounds}
use Rattle.std.proofs.Math.IntN.{zero-*ℤ}

pub value_at-level : (n x y : ℕ) → value_at (level n) x y ≡ pos n
value_at-level n x y = omega (arith, ints, zero-*ℤ (pos x), zero-*ℤ (pos y))

pub before_turned : (z w : ℤ) → le_z (neg_ℤ w) (neg_ℤ z -ℤ pos 1) ≡ lt_z z w
before_turned z w = grind (arith, ints)

pub le_same : (v : ℤ) → le_z v v ≡ true
le_same v = grind (arith, ints)

-- the tests of a cell, in the order of the depths
in_order : (near n sides f b : Bool) → near ≡ true → (n && sides) && f && b ≡ (sides && ((near && f) && (n && b)))
in_order near n sides f b e = grind arith

some_cell : (sides : Bool) (e l z : ℤ) → (sides && (le_z e z && lt_z z l))
    ≡ ((sides && lt_z e l) && le_z e z && lt_z z l)
some_cell false e l z = refl
some_cell true e l z = grind (arith, ints)

module _ (s : SolidView) (end x y : ℕ) where
  abbrev at : Linear → ℤ
  at p = value_at p x y

  abbrev turned : Linear → ℤ
  turned p = neg_ℤ (value_at p x y)

  pub fronts_below : (z : ℤ) → list_all (λ u. le_z u z) (map at (front_planes s.fronts)) ≡ le_z (enters_at s x y) z
  fronts_below z = grind (arith, list_all-map, all_max)

  pub fronts_under : (z : ℤ) → list_all (λ u. lt_z u z) (map at (front_planes s.fronts)) ≡ lt_z (enters_at s x y) z
  fronts_under z =
      all_same (λ u. lt_z u z) (λ u. le_z u (z -ℤ pos 1)) (λ u. grind (arith, ints)) (map at (front_planes s.fronts))
      ∙ fronts_below (z -ℤ pos 1)
      ∙ sym (grind (arith, ints))

  pub backs_over : (z : ℤ) → list_all (λ u. lt_z z u) (map at (back_planes s.backs end)) ≡ lt_z z (leaves_at s end x y)
  backs_over z = grind (arith, list_all-map, list_all-append, all_min)

  pub turned_backs : (z : ℤ) → list_all (λ u. le_z u (neg_ℤ z -ℤ pos 1)) (map turned (back_planes s.backs end))
      ≡ lt_z z (leaves_at s end x y)
  turned_backs z = grind (arith, backs_over z, list_all-map, all_same, before_turned)

  pub cells_are : (z : ℕ) → is_inside_at s end x y z ≡ (is_met s end x y && le_z (enters_at s x y) (pos z)
      && lt_z (pos z) (leaves_at s end x y))
  cells_are z =
      in_order (le_z (pos 0) (pos z)) (nat_lt z end) (hold_at s.sides x y)
      (list_all (λ f. le_z (value_at f.plane x y) (pos z)) s.fronts)
      (list_all (λ f. lt_z (pos z) (value_at f.plane x y)) s.backs) (grind (arith, ints))
      ∙ rw (
        ← all_max (λ f. value_at f.plane x y) s.fronts (pos 0) (pos z),
        ← all_min (λ f. value_at f.plane x y)
            s.backs (pos end) (pos z),
      )
      (some_cell (hold_at s.sides x y) (enters_at s x y) (leaves_at s end x y) (pos z))

  pub depths_are : is_met s end x y ≡ true → (pos 0 ≤ℤ enters_at s x y) × (enters_at s x y <ℤ leaves_at s end x y)
      × (leaves_at s end x y ≤ℤ pos end)
  depths_are met =
      let low = fold-int_max_bounds (pos 0) (map (λ f. value_at f.plane x y) s.fronts) (enters_at s x y) refl in
      let high = fold-int_min_bounds (pos end) (map (λ f. value_at f.plane x y) s.backs) (leaves_at s end x y) refl in
      (low.0, grind (arith, ints), high.0)

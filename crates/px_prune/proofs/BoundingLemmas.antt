-- The boxes of a picture's cells, joined, are the one least box that holds them.
use Rattle.px_num.proofs.Basics.{ℕ, suc, zero, ◌≡◌, ◌+◌, ◌-◌, ◌==◌, ◌||◌, ◌&&◌, nat_le, nat_lt, Bool, true, false}
use Rattle.px_num.proofs.Basics.{refl, ap, sym, arith, Option, Some, None, slice_get, fun_ext, option_map_or}
use Rattle.px_prune.proofs.Words.{before_end, bounding_box, cell_box, CellBox, cells_of, Depths, depths_of, far_of}
use Rattle.px_prune.proofs.Words.{in_rows, is_part, IsBoundingBox, IsBoxOf, leaf_cell, no_cell, pixel_hull, row_hull}
use Rattle.px_prune.proofs.Words.{rows_hull, SceneView, solid_cell, SolidView}
use Rattle.px_prune.proofs.HullLemmas.{at_pixel, in_row, joined_box, same_box, no_box, no_row, no_rows, pixel_box}
use Rattle.px_prune.proofs.HullLemmas.{no_pixel, next_pixel, next_row}

-- the cells before a depth
abbrev before : (ℕ → ℕ → ℕ → Bool) → ℕ → ℕ → ℕ → ℕ → Bool
before f n x y z = nat_lt z n && f x y z

-- the cells at one depth
abbrev at_depth : (ℕ → ℕ → ℕ → Bool) → ℕ → ℕ → ℕ → ℕ → Bool
at_depth f n x y z = (z == n) && f x y z

last_is : (n : ℕ) → n + 1 - 1 ≡ n
last_is n = omega arith

module _ (f : ℕ → ℕ → ℕ → Bool) where
  only : (n z : ℕ) (v w : Bool) → w ≡ true → (z ≡ n → v ≡ w) → (z == n) && v ≡ nat_le n z && nat_lt z (n + 1)
  only n z v w e same = grind arith

  never : (n z : ℕ) (v w : Bool) → w ≡ false → (z ≡ n → v ≡ w) → (z == n) && v ≡ false
  never n z v w e same = grind arith

  one_cell : (x y n : ℕ) → IsBoxOf (at_pixel (at_depth f n) x y) (cell_box f x y n)
  one_cell x y n = grind (arith, at_pixel, last_is, pixel_box, only, no_pixel, never)

  split : (x y n a b z : ℕ) (v : Bool) → (a == x) && (b == y) && (nat_lt z (suc n) && v)
      ≡ ((a == x) && (b == y) && (nat_lt z n && v)) || ((a == x) && (b == y) && ((z == n) && v))
  split x y n a b z v = grind arith

  nothing : (x y a b z : ℕ) (v : Bool) → (a == x) && (b == y) && (nat_lt z zero && v) ≡ false
  nothing x y a b z v = grind arith

  pixel_box_of : (x y n : ℕ) → IsBoxOf (at_pixel (before f n) x y) (pixel_hull f x y n)
  pixel_box_of x y zero = no_box (at_pixel (before f zero) x y) (λ a b z. nothing x y a b z (f a b z))
  pixel_box_of x y (suc n) = joined_box (at_pixel (before f n) x y) (at_pixel (at_depth f n) x y)
      (at_pixel (before f (suc n)) x y) _ _ (λ a b z. split x y n a b z (f a b z)) (pixel_box_of x y n) (one_cell x y n)

  succ_is : (n : ℕ) → n + 1 ≡ suc n
  succ_is n = omega arith

  row_box_of : (far y x : ℕ) → IsBoxOf (in_row (before f far) x y) (row_hull f far y x)
  row_box_of far y zero = no_row (before f far) y
  row_box_of far y (suc x) =
      rw (← succ_is x) (next_pixel (before f far) x y _ _ (row_box_of far y x) (pixel_box_of x y far))

  rows_box_of : (far width y : ℕ) → IsBoxOf (in_rows (before f far) width y) (rows_hull f far width y)
  rows_box_of far width zero = no_rows (before f far) width
  rows_box_of far width (suc y) =
      rw (← succ_is y) (next_row (before f far) width y _ _ (rows_box_of far width y) (row_box_of far y width))

same_parts : (a b : CellBox) → is_part (Some a) b ≡ true → is_part (Some b) a ≡ true → Some a ≡ Some b
same_parts a b p q = grind arith

-- there is one least box
one_box : (c : ℕ → ℕ → ℕ → Bool) (o u : Option CellBox) → IsBoxOf c o → IsBoxOf c u → o ≡ u
one_box c None u p q = sym (q.none.1 (p.none.0 refl))
one_box c (Some a) None p q = p.none.1 (q.none.0 refl)
one_box c (Some a) (Some b) p q = same_parts a b (p.least b q.holds) (q.least a p.holds)

inside_before : (found : Option SolidView) (d : Depths) (x y z : ℕ) → nat_lt z d.far
    && (option_map_or (solid_cell d x y z) found no_cell).member
    ≡ (option_map_or (solid_cell d x y z) found no_cell).member
inside_before None d x y z = grind arith
inside_before (Some s) d x y z = let same = before_end d z in grind arith

pub bounding_is : (scene : SceneView) (q : ℕ) → IsBoundingBox scene q (bounding_box scene q)
bounding_is scene q =
    let f : ℕ → ℕ → ℕ → Bool = λ x y z. (leaf_cell scene.solids (depths_of scene) x y z q).member
    in same_box (in_rows (before f (far_of scene)) scene.width scene.height) (cells_of scene q) (bounding_box scene q)
    (λ x y z. ap (λ b. nat_lt x scene.width && nat_lt y scene.height && b) (inside_before (slice_get scene.solids q)
    (depths_of scene) x y z))
    (rows_box_of f (far_of scene) scene.width scene.height)

-- the least box is the boxes of the cells joined
pub is_bounding_box : (scene : SceneView) (q : ℕ) (box : Option CellBox) → IsBoundingBox scene q box
    → box ≡ bounding_box scene q
is_bounding_box scene q box bounding =
    one_box (cells_of scene q) box (bounding_box scene q) bounding (bounding_is scene q)

-- boxes that bound the solids are the bounding boxes
pub bounding_boxes : (scene : SceneView) (boxes : ℕ → Option CellBox) → ((q : ℕ) → IsBoundingBox scene q (boxes q))
    → boxes ≡ bounding_box scene
bounding_boxes scene boxes bounding = fun_ext λ q. is_bounding_box scene q (boxes q) (bounding q)

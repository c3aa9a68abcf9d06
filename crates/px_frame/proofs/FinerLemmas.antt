-- What is seen of the finer scene at a pixel that both scenes have.
use Rattle.std.proofs.Common.{rules}
use Rattle.px_num.proofs.Basics.{◌≡◌, ℕ, zero, suc, ◌+◌, ◌*◌, ◌^◌, ◌<◌, ℤ, pos, ◌*ℤ◌, List, [], ◌∷◌, map, nat_le}
use Rattle.px_num.proofs.Basics.{nat_lt, Bool, Option, Some, None, refl, ap, sym, ◌∙◌, arith, slice_get, fun_ext}
use Rattle.px_num.proofs.Basics.{pow-add, pow_pos, slice_get-map, fold, list_all, int_max, int_min, int_eq}
use lib.Signed.{lt_z, le_z}
use Rattle.px_num.specs.declared.linear.Linear.{Linear}
use Rattle.px_num.specs.Forms.{value_at}
use Rattle.px_num.proofs.TruthLaws.{le_holds, le_same}
use Rattle.px_expr.specs.Cells.{Cell, cell}
use Rattle.px_model.specs.declared.solid.Face.{Face}
use Rattle.px_model.specs.Scenes.{SolidView, SceneView}
use Rattle.px_model.specs.Cells.{Depths, backs_at, cell_of, depths, end_of, enters_at, faces_at, far_of}
use Rattle.px_model.specs.Cells.{first_cell, fronts_at, is_inside, is_inside_before, leaf_cell, least, leaves_at}
use Rattle.px_model.specs.Cells.{scene_cell, sight_at, solid_cell, value_of}
use Rattle.px_model.proofs.CellLaws.{cell_is_first}
use Rattle.px_model.specs.declared.pixels.Pixels.TheVariants.{Finer}
use Rattle.px_model.specs.Pixels.{face_over, plane_over, solid_over}
use Rattle.px_frame.specs.Finer.{fine_scene}
use Rattle.px_frame.specs.FinerLaw.{CommonPixelsAgree}
use Rattle.px_frame.proofs.ScaleLemmas.{eq_times, le_times, lt_times, max_times, min_times, nat_lt_times, value_scaled}

all_map : {A B : Type 0} (p : A → Bool) (q : B → Bool) (g : A → B) → ((a : A) → q (g a) ≡ p a) → (xs : List A)
    → list_all q (map g xs) ≡ list_all p xs
all_map p q g same [] = refl
all_map p q g same (x ∷ xs) = rw (same x, all_map p q g same xs) refl

-- numbers that are at most the same numbers
same_number : (m n : ℕ) → ((z : ℕ) → nat_le m z ≡ nat_le n z) → m ≡ n
same_number m n same =
    let below = le_holds n m (sym (same m) ∙ le_same m) in
    let above = le_holds m n (same n ∙ le_same n) in
    omega (arith, below, above)

-- a pixel of the scene, and the first of the finer pixels that it is cut into
module _ (s x y : ℕ) where
  abbrev k : ℕ
  k = 2 ^ s

  some : 0 < k
  some = pow_pos s

  nothing : pos 0 ≡ pos k *ℤ pos 0
  nothing = ap pos (let none : 0 ≡ k * 0 = omega arith in none)

  value_fine : (p : Linear) → value_at (plane_over (Finer s) p) (k * x) (k * y) ≡ pos k *ℤ value_at p x y
  value_fine p = value_scaled k p x y

  faces_fine : (faces : List Face) (v : ℤ) → faces_at (map (face_over (Finer s)) faces) (k * x) (k * y) (pos k *ℤ v)
      ≡ faces_at faces x y v
  faces_fine [] v = refl
  faces_fine (f ∷ fs) v = grind (arith, value_fine, eq_times, some, faces_fine fs v)

  greatest_fine : (faces : List Face) (u : ℤ)
      → fold int_max (pos k *ℤ u) (map (λ f. value_at f.plane (k * x) (k * y)) (map (face_over (Finer s)) faces))
      ≡ pos k *ℤ fold int_max u (map (λ f. value_at f.plane x y) faces)
  greatest_fine [] u = refl
  greatest_fine (f ∷ fs) u =
      let here = ap (λ w. int_max (pos k *ℤ u) w) (value_fine f.plane) ∙ max_times k u (value_at f.plane x y) some in
      ap (λ w. fold int_max w (map (λ f. value_at f.plane (k * x) (k * y)) (map (face_over (Finer s)) fs))) here
      ∙ greatest_fine fs (int_max u (value_at f.plane x y))

  least_fine : (faces : List Face) (u : ℤ)
      → fold int_min (pos k *ℤ u) (map (λ f. value_at f.plane (k * x) (k * y)) (map (face_over (Finer s)) faces))
      ≡ pos k *ℤ fold int_min u (map (λ f. value_at f.plane x y) faces)
  least_fine [] u = refl
  least_fine (f ∷ fs) u =
      let here = ap (λ w. int_min (pos k *ℤ u) w) (value_fine f.plane) ∙ min_times k u (value_at f.plane x y) some in
      ap (λ w. fold int_min w (map (λ f. value_at f.plane (k * x) (k * y)) (map (face_over (Finer s)) fs))) here
      ∙ least_fine fs (int_min u (value_at f.plane x y))

  enters_fine : (solid : SolidView) → enters_at (solid_over (Finer s) solid) (k * x) (k * y) ≡ pos k
      *ℤ enters_at solid x y
  enters_fine solid = search (rules, fold, int_max, map, nothing, greatest_fine, pos)

  -- depths of the scene, and those of the finer one
  module _ (far f : ℕ) where
    abbrev d : Depths
    d = depths far f

    abbrev e : Depths
    e = depths far (f + s)

    value_of_fine : (z : ℕ) → value_of e z ≡ k * value_of d z
    value_of_fine z = let parts : 2 ^ (f + s) ≡ 2 ^ f * 2 ^ s = pow-add 2 f s in rw parts (grind arith)

    cell_fine : (v : ℤ) → cell_of e (pos k *ℤ v) ≡ cell_of d v
    cell_fine v = same_number (cell_of e (pos k *ℤ v)) (cell_of d v) (λ z.
        cell_is_first e (pos k *ℤ v) z ∙ ap (λ w. le_z (pos k *ℤ v) (pos w)) (value_of_fine z)
        ∙ le_times k v (pos (value_of d z)) some ∙ sym (cell_is_first d v z))

    inside_fine : (solid : SolidView) (z : ℕ) → is_inside (solid_over (Finer s) solid) e (k * x) (k * y) z
        ≡ is_inside solid d x y z
    inside_fine solid z =
        let before : nat_lt (value_of e z) (end_of e) ≡ nat_lt (value_of d z) (end_of d) =
        rw (value_of_fine z, value_of_fine far) (nat_lt_times k (value_of d z) (end_of d) some) in
        let sides = all_map (λ side. le_z (pos 0) (value_at side x y))
        (λ side. le_z (pos 0) (value_at side (k * x) (k * y)))
        (plane_over (Finer s)) (λ p. ap (λ w. le_z (pos 0) w) (value_fine p)
        ∙ ap (λ w. le_z w (pos k *ℤ value_at p x y)) nothing
        ∙ le_times k (pos 0) (value_at p x y) some) solid.sides in
        let fronts = all_map (λ (g : Face). le_z (value_at g.plane x y) (pos (value_of d z)))
        (λ (g : Face). le_z (value_at g.plane (k * x) (k * y)) (pos (value_of e z)))
        (face_over (Finer s)) (λ g. ap (λ w. le_z w (pos (value_of e z))) (value_fine g.plane)
        ∙ ap (λ w. le_z (pos k *ℤ value_at g.plane x y) (pos w)) (value_of_fine z)
        ∙ le_times k (value_at g.plane x y) (pos (value_of d z)) some) solid.fronts in
        let backs = all_map (λ (g : Face). lt_z (pos (value_of d z)) (value_at g.plane x y))
        (λ (g : Face). lt_z (pos (value_of e z)) (value_at g.plane (k * x) (k * y)))
        (face_over (Finer s)) (λ g. ap (λ w. lt_z (pos (value_of e z)) w) (value_fine g.plane)
        ∙ ap (λ w. lt_z (pos w) (pos k *ℤ value_at g.plane x y)) (value_of_fine z)
        ∙ lt_times k (pos (value_of d z)) (value_at g.plane x y) some) solid.backs in
        rw (before, sides, fronts, backs) refl

    before_fine : (solid : SolidView) (z : ℕ) → is_inside_before (solid_over (Finer s) solid) e (k * x) (k * y) z
        ≡ is_inside_before solid d x y z
    before_fine solid zero = refl
    before_fine solid (suc z) = inside_fine solid z

    leaves_fine : (solid : SolidView) → leaves_at (solid_over (Finer s) solid) (end_of e) (k * x) (k * y) ≡ pos k
        *ℤ leaves_at solid (end_of d) x y
    leaves_fine solid =
        ap (λ u. fold int_min (pos u) (map (λ f. value_at f.plane (k * x) (k * y))
        (map (face_over (Finer s)) solid.backs)))
        (value_of_fine far)
        ∙ least_fine solid.backs (pos (end_of d))

    near_fine : (solid : SolidView) → int_eq (pos 0) (enters_at (solid_over (Finer s) solid) (k * x) (k * y))
        ≡ int_eq (pos 0) (enters_at solid x y)
    near_fine solid = grind (arith, enters_fine, nothing, eq_times, some)

    fronts_fine : (solid : SolidView) (z : ℕ) → fronts_at (solid_over (Finer s) solid) e (k * x) (k * y) z
        ≡ fronts_at solid d x y z
    fronts_fine solid z = grind (arith, enters_fine, cell_fine, faces_fine, near_fine)

    backs_fine : (solid : SolidView) (z : ℕ) → backs_at (solid_over (Finer s) solid) e (k * x) (k * y) z
        ≡ backs_at solid d x y z
    backs_fine solid z = grind (arith, leaves_fine, cell_fine, faces_fine, before_fine)

    solid_fine : (solid : SolidView) (z : ℕ) → solid_cell e (k * x) (k * y) z (solid_over (Finer s) solid)
        ≡ solid_cell d x y z solid
    solid_fine solid z = rw (inside_fine solid z, fronts_fine solid z, backs_fine solid z) refl

    leaf_fine : (solids : List SolidView) (z i : ℕ)
        → leaf_cell (map (solid_over (Finer s)) solids) e (k * x) (k * y) z i ≡ leaf_cell solids d x y z i
    leaf_fine solids z i = grind (arith, slice_get-map, slice_get, solid_fine)

  cell_same : (scene : SceneView) (z : ℕ) → scene_cell (fine_scene s scene) (k * x) (k * y) z ≡ scene_cell scene x y z
  cell_same scene z =
      ap (λ f. cell f scene.show) (fun_ext (leaf_fine (far_of scene) scene.fraction_bits scene.solids z))

  first_same : (scene : SceneView) → first_cell (fine_scene s scene) (k * x) (k * y) ≡ first_cell scene x y
  first_same scene = grind (arith, fun_ext, cell_same)

  sight_same : (scene : SceneView) (o : Option ℕ) → sight_at (fine_scene s scene) (k * x) (k * y) o
      ≡ sight_at scene x y o
  sight_same scene None = refl
  sight_same scene (Some z) = ap (λ (c : Cell). record { depth = z; face = least c.shown }) (cell_same scene z)

pub common_pixels : CommonPixelsAgree
common_pixels s scene x y =
    ap (λ o. sight_at (fine_scene s scene) (2 ^ s * x) (2 ^ s * y) o) (first_same s x y scene)
    ∙ sight_same s x y scene (first_cell scene x y)

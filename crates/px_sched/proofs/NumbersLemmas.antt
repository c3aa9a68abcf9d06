-- The passes leave the key of the picture.
use Rattle.px_num.proofs.Basics.{rules, ◌≡◌, ◌<◌, ◌≤◌, ◌*◌, ◌^◌, ◌&&◌, ℕ, Bool, true, false, List, ◌∷◌, length, min, []}
use Rattle.px_num.proofs.Basics.{Option, Some, None, refl, ap, sym, ◌∙◌, arith, inl, inr, fold, All, mul-le-mul}
use Rattle.px_num.proofs.Basics.{mul-le-mul_left, cases_lt, pow_pos}
use Rattle.px_sched.proofs.Words.{after_steps, and_left, and_right, cases_order, Cell, Depths, depths_of, faces_of}
use Rattle.px_sched.proofs.Words.{far_of, first_cell, has_face, HasLeavesBelow, HasSolidsBelow, is_member_at, is_void}
use Rattle.px_sched.proofs.Words.{IsLawfulScene, IsLawfulSolid, kept_of, key, KeyedPixel, Keys, leaf_cell, least}
use Rattle.px_sched.proofs.Words.{leaves_below, min_cases, never, picture, Product, scene_cell, SceneView, Sight}
use Rattle.px_sched.proofs.Words.{sight_at, some_shows, steps_with, sum_of_products, value_of}
use Rattle.px_face.specs.Surfaces.{IsFirst, IsFirstOf, scene_before}
use Rattle.px_face.proofs.BackgroundLemmas.{first_cells}
use Rattle.px_face.proofs.SurfaceLemmas.{scene_surface}
use Rattle.px_normal.proofs.NormalLemmas.{all_below, is_normal_form}
use Rattle.px_normal.proofs.SolidsLaws.{solids_laws}
use Rattle.px_prune.proofs.KeptLaws.{kept_is_shown, none_is_void}
use Rattle.px_prune.proofs.StayingLemmas.{kept_below}
use Rattle.px_prune.specs.Bounding.{bounding_box}
use Rattle.px_sched.proofs.BlockLemmas.{all_found, steps_best}
use Rattle.px_sched.proofs.MemberLaws.{In, all_in, face_in, in_face}
use Rattle.px_sched.proofs.ProductLaws.{IsFit, fit}
use Rattle.px_sched.proofs.JoinLemmas.{best_is_least}

-- the best key is that of a depth and a face number, which have room in it
pub record IsKeyOf (scene : SceneView) (l : KeyedPixel) (sight : Sight) (best : ℕ) : Type 0 where
  pub key : best ≡ key l (sight.depth * 2 ^ scene.fraction_bits) sight.face
  pub depth : sight.depth < 2 ^ scene.depth_bits
  pub face : sight.face < 2 ^ l.number_bits

-- a pixel of the picture, with bits enough for each face number
pub record IsPixelOf (scene : SceneView) (l : KeyedPixel) : Type 0 where
  pub number_bits : faces_of scene.solids < 2 ^ l.number_bits
  pub left : l.x < scene.width
  pub up : l.y < scene.height

-- whatever the numbers of a pixel of the picture were, the passes leave the key of what it shows
abbrev pub NumbersShowThePicture : Type 0
NumbersShowThePicture = (scene : SceneView) → IsLawfulScene scene → All IsLawfulSolid scene.solids →
    (l : KeyedPixel) → IsPixelOf scene l → (k : Keys) →
    IsKeyOf scene l (picture scene l.x l.y)
    (after_steps scene l k (steps_with scene (kept_of scene (sum_of_products scene.show)))).best

least_in : (ns : List ℕ) → 0 < length ns → In (least ns) ns
least_in [] h = absurd (omega arith)
least_in (n ∷ []) h = inl refl
least_in (n ∷ m ∷ ns) h = grind (arith, min_cases, least_in (m ∷ ns) (omega arith))

least_below : (ns : List ℕ) (n : ℕ) → In n ns → least ns ≤ n
least_below [] n h = absurd h
least_below (m ∷ []) n (inl e) = omega (arith, e)
least_below (m ∷ []) n (inr h) = absurd h
least_below (m ∷ k ∷ ns) n (inl e) = omega (arith, e)
least_below (m ∷ k ∷ ns) n (inr h) = omega (arith, least_below (k ∷ ns) n h)

-- keys are in the order of depth and then of number
key_before : (l : KeyedPixel) (d : Depths) (y z m n : ℕ) → y < z → m < 2 ^ l.number_bits → key l (value_of d y) m
    < key l (value_of d z) n
key_before l d y z m n h small = grind (arith, pow_pos, min_cases, mul-le-mul, mul-le-mul_left)

module _ (scene : SceneView) (lawful : IsLawfulScene scene) (l : KeyedPixel)
    (place : IsPixelOf scene l) where
  abbrev d : Depths
  d = depths_of scene

  abbrev far : ℕ
  far = far_of scene

  abbrev at : ℕ → ℕ → Cell
  at z = leaf_cell scene.solids d l.x l.y z

  abbrev seen : ℕ → Cell
  seen z = scene_cell scene l.x l.y z

  abbrev test : ℕ → Bool
  test z = is_member_at scene l.x l.y z

  before_first : (z : ℕ) → IsFirst test far z → (scene_before scene l.x l.y z).member ≡ false
  before_first x r = grind arith

  -- where the shown expression begins it shows a face
  begins : (z : ℕ) → IsFirst test far z → 0 < length (seen z).shown
  begins z r = (scene_surface scene lawful l.x l.y z r.below).first (before_first z r) r.passes

  abbrev whole : List Product
  whole = sum_of_products scene.show

  abbrev kept : List Product
  kept = kept_of scene whole

  below_256 : HasLeavesBelow 256 scene.show
  below_256 = leaves_below (length scene.solids) 256 (omega (arith, lawful.solids)) scene.show lawful.shown

  -- the kept products show what the expression shows
  kept_show : (z n : ℕ) → z < far → some_shows (at z) n kept ≡ ((seen z).member && has_face n (seen z).shown)
  kept_show z n low =
      let normal = is_normal_form (at z) scene.show below_256 in
      let law = kept_is_shown scene lawful whole in
      grind arith

  each_fit : (p : Product) → In p kept → IsFit (length scene.solids) p
  each_fit p there =
      fit (length scene.solids) p
      (all_in (HasSolidsBelow (length scene.solids)) kept p
      (kept_below solids_laws (length scene.solids) (bounding_box scene) whole
      (all_below (length scene.solids) scene.show below_256 lawful.shown)) there)
      (all_in (λ product. is_void product ≡ false) kept p (none_is_void scene whole) there)

  big : far < 2 ^ scene.depth_bits
  big = omega (arith, pow_pos scene.depth_bits)

  module _ (solids : All IsLawfulSolid scene.solids) where
    abbrev best : ℕ
    best = fold min (key l (value_of d far) 0) (all_found scene l kept)

    at_first : (t : ℕ) → IsFirst test far t → IsKeyOf scene l (sight_at scene l.x l.y (Some t)) best
    at_first t r =
        let b = best_is_least scene solids lawful.numbers l kept each_fit in
        let face = least (seen t).shown in
        let there = least_in (seen t).shown (begins t r) in
        let low = b.below t face (omega (arith, r.below)) (kept_show t face r.below
        ∙ rw (r.passes, in_face face (seen t).shown there) refl) in
        let small : face < 2 ^ l.number_bits = omega (arith, low.1, place.number_bits) in
        let is_key : best ≡ key l (value_of d t) face = elim b.reached [
          | inl e ↦ absurd (omega (arith, e, low.0, key_before l d t far face 0 r.below small))
          | inr k ↦ elim (cases_order t k.depth) [
            | inl same ↦ omega (
              arith,
              low.0,
              ap (λ z. 2 ^ l.number_bits * value_of d z) same,
              least_below (seen t).shown k.number (grind (arith, face_in, and_right, kept_show)),
            )
            | inr o ↦ elim o [
              | inl before ↦ absurd (omega (arith, k.is, low.0, key_before l d t k.depth face k.number before small))
              | inr after ↦
                  absurd (never (test k.depth) (r.none_before k.depth after)
                  (member_at k.depth k.number (omega (arith, r.below)) k.shown))
            ]
          ]
        ] in
        record { key = is_key; depth = omega (arith, r.below, big); face = small }
      where
        member_at : (z n : ℕ) → z < far → some_shows (at z) n kept ≡ true → test z ≡ true
        member_at z n low h = and_left (test z) (has_face n (seen z).shown) (sym (kept_show z n low) ∙ h)

    at_none : ((z : ℕ) → z < far → test z ≡ false) → IsKeyOf scene l (sight_at scene l.x l.y None) best
    at_none none =
        let b = best_is_least scene solids lawful.numbers l kept each_fit in
        let is_key : best ≡ key l (value_of d far) 0 = grind (arith, cases_lt, never, and_left, kept_show) in
        record { key = is_key; depth = big; face = pow_pos l.number_bits }

    best_found : (found : Option ℕ) → IsFirstOf test far found → IsKeyOf scene l (sight_at scene l.x l.y found) best
    best_found x r = grind (arith, at_none, at_first)

    best_is_picture : IsKeyOf scene l (picture scene l.x l.y) best
    best_is_picture = best_found (first_cell scene l.x l.y) (first_cells scene l.x l.y)

pub numbers_show_the_picture : NumbersShowThePicture
numbers_show_the_picture scene lawful solids l place k = search (rules, steps_best, best_is_picture)

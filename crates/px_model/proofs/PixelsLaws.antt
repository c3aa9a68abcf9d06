-- A scene over other pixels keeps the limits of scenes, where no constant there is past its limit.
use Rattle.px_num.proofs.Basics.{◌≡◌, ℕ, zero, suc, ℤ, ◌+◌, ◌-◌, ◌^◌, ◌<◌, ◌==◌, List, [], ◌∷◌, length}
use Rattle.px_num.proofs.Basics.{map, filter, find, get_or, All, Bool, true, false, cond, not, nat_lt, Option}
use Rattle.px_num.proofs.Basics.{None, refl, ap, sym, subst, ◌∙◌, arith, fun_ext, get_or-map, length-map, All-map}
use Rattle.px_num.proofs.Basics.{fold-map, get_or-range_with_len, length-range_with_len, range_with_len, option_map}
use Rattle.std.specs.Int.RustNames.{unsigned_abs}
use Rattle.px_num.specs.declared.linear.Linear.{Linear}
use Rattle.px_num.specs.Forms.{IsWithin}
use Rattle.px_model.specs.declared.pixels.Pixels.{Pixels}
use Rattle.px_model.specs.declared.solid.Face.{Face}
use Rattle.px_model.specs.OverSolids.{AreLawfulOver}
use Rattle.px_model.specs.Pixels.{HasSceneOver, face_over, plane_over, scene_over, solid_over}
use Rattle.px_model.specs.Planes.{face_planes, first_past, is_past, planes_among, planes_in, planes_numbered, planes_of}
use Rattle.px_model.specs.Scenes.{AreFaces, IsColour, IsLawfulSolid, IsPlane, SolidView, faces_in, names_of}
use Rattle.px_model.specs.Scenes.{AreNumberedFrom, IsLawfulScene, IsNumberedFrom, SceneView, faces_of, has_number}
use Rattle.px_model.proofs.FindLemmas.{none_before, none_behind, none_in_each, none_passes}

abbrev IsSmall : Linear → Type 0
IsSmall plane = is_past plane ≡ false

-- a constant that is not past the limit
within_limit : (z : ℤ) → nat_lt (2 ^ 33) (unsigned_abs z) ≡ false → IsWithin (2 ^ 33) z
within_limit x small = grind arith

-- a face is among those of its number
small_among : (faces : List Face) (k : ℕ) (d : Face) (number : ℕ) → k < length faces → (get_or faces k d).number
    ≡ number
    → find is_past (planes_among faces number) ≡ None → IsSmall (get_or faces k d).plane
small_among [] k d number within is none = absurd (omega arith)
small_among (f ∷ fs) zero d number within is none = grind (arith, none_passes)
small_among (f ∷ fs) (suc k) d number within is none =
    small_among fs k d number (omega arith) is (later (f.number == number) none)
  where
    later : (b : Bool) → find is_past (map (λ (f : Face). f.plane)
        (cond b (f ∷ filter (λ f. f.number == number) fs) (filter (λ f. f.number == number) fs))) ≡ None
        → find is_past (planes_among fs number) ≡ None
    later true e = none_behind is_past (f.plane ∷ []) (planes_among fs number) e
    later false e = e

-- the planes of a solid are all among those in their order
module _ (s : SolidView) (from : ℕ) (numbered : IsNumberedFrom from s) (none : find is_past (planes_in s) ≡ None) where
  none_numbered : (number : ℕ) → s.near_number < number → number < from + faces_in s
      → find is_past (planes_numbered s number) ≡ None
  none_numbered number above below =
      let first = s.near_number + 1 in
      let count = length s.fronts + length s.backs in
      let place = number - first in
      let within : place < count = omega (arith, numbered.near) in
      let is : get_or (range_with_len first count) place 0 ≡ number =
      get_or-range_with_len first count place 0 within ∙ (let back : first + place ≡ number = omega arith in back) in
      let each = none_in_each is_past (planes_numbered s) (range_with_len first count)
      (none_before is_past (face_planes s) s.sides none) in
      grind (arith, find, length-range_with_len)

  small_fronts : All (λ f. s.near_number < f.number) s.fronts → All (λ f. IsSmall f.plane) s.fronts
  small_fronts above k d within =
      let number = (get_or s.fronts k d).number in
      small_among s.fronts k d number within refl (none_before is_past (planes_among s.fronts number)
      (planes_among s.backs number) (none_numbered number (above k d within) (numbered.fronts k d within)))

  small_backs : All (λ f. s.near_number < f.number) s.backs → All (λ f. IsSmall f.plane) s.backs
  small_backs above k d within =
      let number = (get_or s.backs k d).number in
      small_among s.backs k d number within refl (none_behind is_past (planes_among s.fronts number)
      (planes_among s.backs number) (none_numbered number (above k d within) (numbered.backs k d within)))

  small_sides : All IsSmall s.sides
  small_sides = none_passes is_past s.sides (none_behind is_past (face_planes s) s.sides none)

module _ (pixels : Pixels) where
  plane_kept : (p : Linear) → IsPlane p → IsSmall (plane_over pixels p) → IsPlane (plane_over pixels p)
  plane_kept p is small = record { a = is.a; b = is.b; c = within_limit (plane_over pixels p).c small }

  -- faces keep their colours, numbers and order
  above_kept : (near : ℕ) (faces : List Face) → AreFaces near faces
      → All (λ f. near < f.number) (map (face_over pixels) faces)
  above_kept near faces are = All-map (λ f. near < f.number) (face_over pixels) faces are.numbers

  faces_kept : (near : ℕ) (faces : List Face) → AreFaces near faces
      → All (λ f. IsSmall f.plane) (map (face_over pixels) faces) → AreFaces near (map (face_over pixels) faces)
  faces_kept near faces are small = record {
    few = let few = are.few in rw (length-map faces (face_over pixels)) few;
    planes = All-map (λ f. IsPlane f.plane) (face_over pixels) faces
        (λ k d within. plane_kept (get_or faces k d).plane (are.planes k d within)
        (rw (get_or-map (face_over pixels) faces k d d within) at
        (small k d (rw (length-map faces (face_over pixels)) within))));
    colours = All-map (λ f. IsColour f.colour) (face_over pixels) faces are.colours;
    numbers = above_kept near faces are;
    order = λ i j d before within.
        let last : j < length faces = omega (arith, within, length-map faces (face_over pixels)) in
        let first : i < length faces = omega arith in
        rw (get_or-map (face_over pixels) faces i d d first, get_or-map (face_over pixels) faces j d d last)
        (are.order i j d before last);
  }

  count_kept : (s : SolidView) → faces_in (solid_over pixels s) ≡ faces_in s
  count_kept s = rw (length-map s.fronts (face_over pixels), length-map s.backs (face_over pixels)) refl

  any_kept : (faces : List Face) (number : ℕ) → has_number (map (face_over pixels) faces) number
      ≡ has_number faces number
  any_kept [] number = refl
  any_kept (f ∷ fs) number = rw (any_kept fs number) refl

  numbered_kept : (from : ℕ) (s : SolidView) → IsNumberedFrom from s → IsNumberedFrom from (solid_over pixels s)
  numbered_kept from s numbered =
      let same = count_kept s in
      record {
        near = numbered.near;
        fronts = All-map (λ f. f.number < from + faces_in (solid_over pixels s)) (face_over pixels) s.fronts
            (λ k d within. omega (arith, same, numbered.fronts k d within));
        backs = All-map (λ f. f.number < from + faces_in (solid_over pixels s)) (face_over pixels) s.backs
            (λ k d within. omega (arith, same, numbered.backs k d within));
        once = λ n above below. any_kept s.fronts n ∙ numbered.once n above (omega (arith, same, below))
            ∙ ap not (sym (any_kept s.backs n));
      }

  solid_kept : (s : SolidView) (from : ℕ) → IsLawfulSolid s → IsNumberedFrom from s
      → find is_past (planes_in (solid_over pixels s)) ≡ None → IsLawfulSolid (solid_over pixels s)
  solid_kept s from lawful numbered none =
      let over = solid_over pixels s in
      let kept = numbered_kept from s numbered in
      record {
        colour = lawful.colour;
        fronts = faces_kept s.near_number s.fronts lawful.fronts
            (small_fronts over from kept none (above_kept s.near_number s.fronts lawful.fronts));
        backs = faces_kept s.near_number s.backs lawful.backs
            (small_backs over from kept none (above_kept s.near_number s.backs lawful.backs));
        few_sides = let few = lawful.few_sides in rw (length-map s.sides (plane_over pixels)) few;
        sides = All-map IsPlane (plane_over pixels) s.sides (λ k d within.
            plane_kept (get_or s.sides k d) (lawful.sides k d within)
            (rw (get_or-map (plane_over pixels) s.sides k d d within) at
            (small_sides over from kept none k d (rw (length-map s.sides (plane_over pixels)) within))));
      }

  solids_kept : (from : ℕ) (solids : List SolidView) → All IsLawfulSolid solids → AreNumberedFrom from solids
      → find is_past (planes_of (map (solid_over pixels) solids)) ≡ None → AreLawfulOver pixels solids
  solids_kept from [] lawful numbered none k d within = absurd (omega arith)
  solids_kept from (s ∷ solids) lawful numbered none zero d within =
      solid_kept s from (lawful 0 s (omega arith)) numbered.0
      (none_before is_past (planes_in (solid_over pixels s)) (planes_of (map (solid_over pixels) solids)) none)
  solids_kept from (s ∷ solids) lawful numbered none (suc k) d within =
      solids_kept (from + faces_in s) solids (λ i e below. lawful (suc i) e (omega arith)) numbered.1
      (none_behind is_past (planes_in (solid_over pixels s)) (planes_of (map (solid_over pixels) solids)) none)
      k d (omega arith)

  no_plane : {A : Type 0} (f : Linear → A) (o : Option Linear) → option_map f o ≡ None → o ≡ None
  no_plane f x e = grind arith

  pub all_lawful : (solids : List SolidView) → All IsLawfulSolid solids → AreNumberedFrom 1 solids
      → first_past (map (solid_over pixels) solids) ≡ None → AreLawfulOver pixels solids
  all_lawful solids lawful numbered none = solids_kept 1 solids lawful numbered (no_plane (λ plane. plane.c) _ none)

  names_kept : (solids : List SolidView) → names_of (map (solid_over pixels) solids) ≡ names_of solids
  names_kept [] = refl
  names_kept (s ∷ solids) = ap (λ names. s.name ∷ names) (names_kept solids)

  pub counts_kept : (solids : List SolidView) → faces_of (map (solid_over pixels) solids) ≡ faces_of solids
  counts_kept solids = grind (arith, fun_ext, count_kept, fold-map)

  all_numbered : (from : ℕ) (solids : List SolidView) → AreNumberedFrom from solids
      → AreNumberedFrom from (map (solid_over pixels) solids)
  all_numbered from [] numbered = tt
  all_numbered from (s ∷ solids) numbered = (
    numbered_kept from s numbered.0,
    subst (λ (n : ℕ). AreNumberedFrom n (map (solid_over pixels) solids))
        (ap (λ n. from + n) (sym (count_kept s))) (all_numbered (from + faces_in s) solids numbered.1),
  )

  pub scene_kept : (width height : ℕ) (scene : SceneView) → IsLawfulScene scene → HasSceneOver pixels width height scene
      → IsLawfulScene (scene_over pixels width height scene)
  scene_kept width height scene lawful over = grind (arith, length-map, names_kept, all_numbered, counts_kept)

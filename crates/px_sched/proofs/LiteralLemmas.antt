-- The candidate of a literal is what it shows at its cell of least number, and nothing that it shows comes before.
use Rattle.px_num.proofs.Basics.{◌≡◌, ◌<◌, ◌≤◌, ◌+◌, ◌-◌, ℕ, zero, suc, ℤ, pos, Bool, true, false, ◌&&◌, List, ◌∷◌, []}
use Rattle.px_num.proofs.Basics.{◌++◌, length, get_or, refl, ap, sym, ◌∙◌, subst, arith, inl, inr, ◌⊎◌, if◌then◌else◌}
use Rattle.px_num.proofs.Basics.{◌==◌, All, AllPairs, int_eq, cases_Bool, cases_eq, nat_tests, get_or_append_left}
use Rattle.px_num.proofs.Basics.{get_or-append_right, get_or-map, length-map}
use Rattle.px_sched.proofs.Words.{and_left, and_right, back_planes, backs_at, cell_of, covering_back, covering_front}
use Rattle.px_sched.proofs.Words.{covered_once, Depths, end_of, enters_at, Face, face_number, face_plane, faces_at}
use Rattle.px_sched.proofs.Words.{faces_in, fronts_at, greatest_fronts, int_eq_holds, int_same_true, is_front_face}
use Rattle.px_sched.proofs.Words.{is_inside_before, IsLawfulSolid, IsNumberedFrom, leaves_at, level, Linear, lt_fails}
use Rattle.px_sched.proofs.Words.{lt_false, lt_holds, lt_true, numbers_in_faces, planes_in_faces, same_true, SolidView}
use Rattle.px_sched.proofs.Words.{value_at}
use Rattle.px_face.proofs.DepthLaws.{value_at-level}
use Rattle.px_sched.proofs.MemberLaws.{In, all_in, in_either, in_right, out_filter, out_map}

-- faces among others, by their places
module _ (planes : List Linear) (numbers : List ℕ) (x y : ℕ) (v : ℤ) where
  in_faces : (fs : List Face) (k : ℕ) → k < length fs → value_at (get_or (planes_in_faces fs ++ planes) k (level 0)) x
      y ≡ v
      → In (get_or (numbers_in_faces fs ++ numbers) k 0) (faces_at fs x y v)
  in_faces [] k h e = absurd (omega arith)
  in_faces (f ∷ fs) zero h e = rw (int_same_true (value_at f.plane x y) v e) (inl refl)
  in_faces (f ∷ fs) (suc k) h e = grind (arith, in_faces fs k (omega arith) e)

  record FaceAt (fs : List Face) (n : ℕ) : Type 0 where
    place : ℕ
    below : place < length fs
    value_is : value_at (get_or (planes_in_faces fs ++ planes) place (level 0)) x y ≡ v
    number_is : get_or (numbers_in_faces fs ++ numbers) place 0 ≡ n

  next_face : (f : Face) (fs : List Face) (n : ℕ) → FaceAt fs n → FaceAt (f ∷ fs) n
  next_face f fs n r =
      record { place = suc r.place; below = omega (arith, r.below); value_is = r.value_is; number_is = r.number_is }

  out_faces : (fs : List Face) (n : ℕ) → In n (faces_at fs x y v) → FaceAt fs n
  out_faces [] n h = absurd h
  out_faces (f ∷ fs) n h = elim (cases_Bool (int_eq (value_at f.plane x y) v)) [
    | inl yea ↦ first yea (out_faces fs n) (rw yea at h)
    | inr nay ↦ next_face f fs n (out_faces fs n (rw nay at h))
  ]
    where
      first : int_eq (value_at f.plane x y) v ≡ true → (In n (faces_at fs x y v) → FaceAt fs n)
          → (f.number ≡ n) ⊎ In n (faces_at fs x y v) → FaceAt (f ∷ fs) n
      first yea others (inl e) =
          record { place = 0; below = omega arith; value_is = int_eq_holds (value_at f.plane x y) v yea; number_is = e }
      first yea others (inr k) = next_face f fs n (others k)

pub in_where_true : (b : Bool) (n : ℕ) (ns : List ℕ) → In n (if b then ns else []) → (b ≡ true) × In n ns
in_where_true true n ns h = (refl, h)
in_where_true false n ns h = absurd h

module _ (s : SolidView) (d : Depths) (x y : ℕ) where
  abbrev end : ℕ
  end = end_of d

  -- ---- fronts
  in_fronts : (k : ℕ) → is_front_face s k ≡ true → value_at (face_plane s end k) x y ≡ enters_at s x y
      → In (face_number s k) (greatest_fronts s x y)
  in_fronts zero front e = rw (int_same_true (pos 0) (enters_at s x y) (sym (value_at-level 0 x y) ∙ e)) (inl refl)
  in_fronts (suc k) front e =
      let low = lt_holds (suc k) (length s.fronts + 1) front in
      in_right (face_number s (suc k)) (if int_eq (pos 0) (enters_at s x y) then s.near_number ∷ [] else [])
      (faces_at s.fronts x y (enters_at s x y))
      (in_faces (back_planes s.backs end) (numbers_in_faces s.backs ++ 0 ∷ []) x y (enters_at s x y) s.fronts k
      (omega (arith, low)) e)

  record FrontAt (n : ℕ) : Type 0 where
    place : ℕ
    front : is_front_face s place ≡ true
    value_is : value_at (face_plane s end place) x y ≡ enters_at s x y
    number_is : face_number s place ≡ n

  out_fronts : (n : ℕ) → In n (greatest_fronts s x y) → FrontAt n
  out_fronts n h = elim (cases_Bool (int_eq (pos 0) (enters_at s x y))) [
    | inl yea ↦ elim (in_either n (s.near_number ∷ []) (faces_at s.fronts x y (enters_at s x y)) (rw yea at h)) [
      | inl a ↦ elim a [
        | inl e ↦ record {
          place = 0;
          front = lt_true 0 (length s.fronts + 1) (omega arith);
          value_is = value_at-level 0 x y ∙ int_eq_holds (pos 0) (enters_at s x y) yea;
          number_is = e;
        }
        | inr b ↦ absurd b
      ]
      | inr b ↦ later_front b
    ]
    | inr nay ↦ later_front (rw nay at h)
  ]
    where
      later_front : In n (faces_at s.fronts x y (enters_at s x y)) → FrontAt n
      later_front b =
          let r = out_faces (back_planes s.backs end) (numbers_in_faces s.backs ++ 0 ∷ []) x y (enters_at s x y)
          s.fronts n b in
          record {
            place = suc r.place;
            front = lt_true (suc r.place) (length s.fronts + 1) (omega (arith, r.below));
            value_is = r.value_is;
            number_is = r.number_is;
          }

  -- ---- a plain literal
  pub plain_shows : In (face_number s (covering_front s x y)) (fronts_at s d x y (cell_of d (enters_at s x y)))
  plain_shows = grind (arith, covered_once, same_true, in_fronts)

  pub record PlainSeen (z n : ℕ) : Type 0 where
    pub cell : cell_of d (enters_at s x y) ≡ z
    pub number : face_number s (covering_front s x y) ≤ n

  pub plain_seen : IsLawfulSolid s → (z n : ℕ) → In n (fronts_at s d x y z) → PlainSeen z n
  plain_seen lawful z n h =
      let two = in_where_true (cell_of d (enters_at s x y) == z) n (greatest_fronts s x y) h in
      let r = out_fronts n two.1 in
      let least = (covered_once s end x y).front.least lawful r.place r.front r.value_is in
      record { cell = grind (arith, nat_tests); number = omega (arith, least, r.number_is) }

  -- ---- a barred literal
  abbrev first_back : ℕ
  first_back = length s.fronts + 1

  back_plane : (face : ℕ) → first_back ≤ face
      → face_plane s end face ≡ get_or (back_planes s.backs end) (face - first_back) (level 0)
  back_plane face low = grind (arith, length-map, get_or-append_right)

  back_number : (face : ℕ) → first_back ≤ face
      → face_number s face ≡ get_or (numbers_in_faces s.backs ++ 0 ∷ []) (face - first_back) 0
  back_number face low = grind (arith, length-map, get_or-append_right)

  pub barred_shows : covering_back s end x y < first_back + length s.backs
      → In (face_number s (covering_back s end x y)) (faces_at s.backs x y (leaves_at s end x y))
  barred_shows there =
      let law = covered_once s end x y in
      let back = covering_back s end x y in
      let low = lt_fails back first_back law.back.behind in
      subst (λ n. In n (faces_at s.backs x y (leaves_at s end x y))) (sym (back_number back low))
      (in_faces (level end ∷ []) (0 ∷ []) x y (leaves_at s end x y) s.backs (back - first_back) (omega arith)
      (ap (λ p. value_at p x y) (sym (back_plane back low)) ∙ law.back.value))

  pub record BarredSeen (z n : ℕ) : Type 0 where
    pub before : is_inside_before s d x y z ≡ true
    pub there : covering_back s end x y < first_back + length s.backs
    pub cell : cell_of d (leaves_at s end x y) ≡ z
    pub number : face_number s (covering_back s end x y) ≤ n

  numbers_grow : (fs : List Face) (ns : List ℕ) (i j : ℕ) → AllPairs (λ f g. f.number < g.number) fs → i ≤ j
      → j < length fs → get_or (numbers_in_faces fs ++ ns) i 0 ≤ get_or (numbers_in_faces fs ++ ns) j 0
  numbers_grow fs ns i j order le lt = elim (cases_eq i j) [
    | inl e ↦ rw e (omega arith)
    | inr ne ↦ grind (arith, order i j any (omega arith) lt, length-map, get_or_append_left, get_or-map)
  ]
    where
      any : Face
      any = record { number = 0; plane = level 0; colour = s.colour }

  pub barred_seen : IsLawfulSolid s → (z n : ℕ) → In n (backs_at s d x y z) → BarredSeen z n
  barred_seen lawful z n h =
      let two = in_where_true (is_inside_before s d x y z && (cell_of d (leaves_at s end x y) == z)) n
      (faces_at s.backs x y (leaves_at s end x y)) h in
      let law = covered_once s end x y in
      let back = covering_back s end x y in
      let r = out_faces (level end ∷ []) (0 ∷ []) x y (leaves_at s end x y) s.backs n two.1 in
      let face = first_back + r.place in
      let value : value_at (face_plane s end face) x y ≡ leaves_at s end x y = grind (arith, back_plane) in
      let first = law.back.least face (omega (arith, r.below)) (lt_false face first_back (omega arith)) value in
      let order = numbers_grow s.backs (0 ∷ []) (back - first_back) r.place lawful.backs.order (omega (arith, first))
      r.below in
      grind (arith, and_left, and_right, back_number, nat_tests)

-- the numbers of the faces that a solid shows or hides
faces_below : (fs : List Face) (x y : ℕ) (v : ℤ) (bound n : ℕ) → All (λ f. f.number < bound) fs
    → In n (faces_at fs x y v) → n < bound
faces_below fs x y v bound n all h =
    let r = out_map (λ f. f.number) _ n h in
    subst (λ m. m < bound) r.gives (all_in (λ f. f.number < bound) fs r.from all (out_filter _ fs r.from r.there).0)

pub fronts_below : (s : SolidView) (d : Depths) (first x y z n : ℕ) → IsNumberedFrom first s
    → In n (fronts_at s d x y z) → n < first + faces_in s
fronts_below s d first x y z n numbered h =
    let v = enters_at s x y in
    let one = (in_where_true (cell_of d v == z) n (greatest_fronts s x y) h).1 in
    elim (in_either n (if int_eq (pos 0) v then s.near_number ∷ [] else []) (faces_at s.fronts x y v) one) [
      | inl a ↦ grind (arith, in_where_true)
      | inr b ↦ faces_below s.fronts x y v (first + faces_in s) n numbered.fronts b
    ]

pub backs_below : (s : SolidView) (d : Depths) (first x y z n : ℕ) → IsNumberedFrom first s → In n (backs_at s d x y z)
    → n < first + faces_in s
backs_below s d first x y z n numbered h =
    let v = leaves_at s (end_of d) x y in
    faces_below s.backs x y v (first + faces_in s) n numbered.backs
    (in_where_true (is_inside_before s d x y z && (cell_of d v == z)) n (faces_at s.backs x y v) h).1

-- The covering law: one front and one back cover a pixel where the solid has a cell there.
use Rattle.px_num.proofs.Basics.{common_steps, ◌≡◌, ◌<◌, ◌≤◌, ◌+◌, ◌-◌, ℕ, zero, suc, ℤ, pos, neg_ℤ, ◌-ℤ◌, Bool, true}
use Rattle.px_num.proofs.Basics.{false, ◌&&◌, List, [], ◌∷◌, ◌++◌, length, map, take, drop, get_or, eqb, ap, sym}
use Rattle.px_num.proofs.Basics.{◌∙◌, arith, add-one, list_all, ints, cases_lt, nat_tests, get_or-append_right}
use Rattle.px_num.proofs.Basics.{get_or-map, get_or_append_left, length-map, list_all-append, list_all-map}
use Rattle.px_face.proofs.Words.{above, all_same, and_false, and_true, AreFaces, at_least, back_edges, back_planes}
use Rattle.px_face.proofs.Words.{covering_back, drop-map, enters_at, eqb_holds, Face, face_count, face_number}
use Rattle.px_face.proofs.Words.{face_plane, front_edges, front_planes, greatest_place, hold_at, is_front_face, is_met}
use Rattle.px_face.proofs.Words.{IsCoveredOnce, le_z, leaves_at, level, Linear, lt_fails, lt_false, lt_holds, lt_true}
use Rattle.px_face.proofs.Words.{lt_z, minus, numbers_in_faces, SolidView, take-map, value_at}
use Rattle.px_num.proofs.FormLaws.{value_at-less_one, value_at-minus}
use Rattle.px_face.proofs.DepthLaws.{backs_over, cells_are, depths_are, fronts_below, fronts_under, before_turned}
use Rattle.px_face.proofs.DepthLaws.{turned_backs, le_same}
use Rattle.px_face.proofs.PlaceLemmas.{greatest_bounds, greatest_first, greatest_only, greatest_there}
use Rattle.px_face.proofs.PlaceLemmas.{is_first_greatest}
use Rattle.px_face.proofs.RangeLemmas.{backs_size, fronts_size}

above_test : (u v : ℤ) → le_z (pos 0) ((u -ℤ v) -ℤ pos 1) ≡ lt_z v u
above_test u v = grind (arith, ints)

at_least_test : (u v : ℤ) → le_z (pos 0) (u -ℤ v) ≡ le_z v u
at_least_test u v = grind (arith, ints)

lt_turned : (u v : ℤ) → lt_z u v ≡ lt_z (neg_ℤ v) (neg_ℤ u)
lt_turned u v = grind (arith, ints)

le_turned : (u v : ℤ) → le_z u v ≡ le_z (neg_ℤ v) (neg_ℤ u)
le_turned u v = grind (arith, ints)

lt_before : (v : ℤ) → lt_z (v -ℤ pos 1) v ≡ true
lt_before v = grind (arith, ints)

le_ext : (a b : ℤ) → le_z a a ≡ le_z b a → le_z a b ≡ le_z b b → a ≡ b
le_ext a b p q = grind (arith, ints)

lt_ext : (a b : ℤ) → lt_z a a ≡ lt_z a b → lt_z b a ≡ lt_z b b → a ≡ b
lt_ext a b p q = grind (arith, ints)

-- forms as a test of the values that they compare
part : (f : Linear → Linear) (v : Linear → ℤ) (t : ℤ → Bool) (x y : ℕ)
    → ((q : Linear) → le_z (pos 0) (value_at (f q) x y) ≡ t (v q)) → (qs : List Linear) → hold_at (map f qs) x y
    ≡ list_all t (map v qs)
part f v t x y same qs = grind (arith, list_all-map, all_same)

kept_parts : (a b c d : List Linear) (x y : ℕ) → hold_at (a ++ (b ++ c) ++ d) x y
    ≡ (hold_at a x y && (hold_at b x y && hold_at c x y)) && hold_at d x y
kept_parts a b c d x y = grind (arith, list_all-append)

one_place : (sides first others met here : Bool) → first ≡ here → (here ≡ true → others ≡ met) → (sides && first)
    && others ≡ (sides && met) && here
one_place sides first others met here e is = grind (arith, and_false, and_true)

-- the place that leads, of values of planes
lead_is : (v : Linear → ℤ) (ps : List Linear) (i : ℕ) → i < length ps → is_first_greatest (map v (take i ps))
    (v (get_or ps i (level 0))) (map v (drop (i + 1) ps)) ≡ eqb i (greatest_place (map v ps))
lead_is v ps i low =
    let room : i < length (map v ps) = simp length-map low in
    rw (← take-map v i ps, ← drop-map v (i + 1) ps, ← get_or-map v ps i (level 0) (pos 0) low, add-one)
    (greatest_only (map v ps) i (pos 0) room)

some_values : (v : Linear → ℤ) (ps : List Linear) (n : ℕ) → length ps ≡ n + 1 → length (map v ps) ≡ n + 1
some_values v ps n e = length-map ps v ∙ e

number_at : (fs : List Face) (i : ℕ) (f : Face) → i < length fs → get_or (numbers_in_faces fs) i 0
    ≡ (get_or fs i f).number
number_at fs i f low = get_or-map (λ g. g.number) fs i f 0 low

-- the numbers of the near face and the fronts grow with their places
numbers_grow : (near : ℕ) (fs : List Face) (i j : ℕ) → AreFaces near fs → i ≤ j → j ≤ length fs
    → get_or (near ∷ numbers_in_faces fs) i 0 ≤ get_or (near ∷ numbers_in_faces fs) j 0
numbers_grow near fs zero zero are le there = omega arith
numbers_grow near [] i (suc j) are le there = absurd (omega arith)
numbers_grow near (f ∷ fs) zero (suc j) are le there =
    let above : near < (get_or (f ∷ fs) j f).number = are.numbers j f (omega arith) in
    omega (arith, number_at (f ∷ fs) j f (omega arith), above)
numbers_grow near fs (suc i) zero are le there = absurd (omega arith)
numbers_grow near (f ∷ fs) (suc i) (suc j) are le there =
    let here = number_at (f ∷ fs) i f (omega arith) in
    let later = number_at (f ∷ fs) j f (omega arith) in
    grind (arith, cases_lt)

module _ (s : SolidView) (end x y : ℕ) where
  abbrev at : Linear → ℤ
  at p = value_at p x y

  abbrev turned : Linear → ℤ
  turned p = neg_ℤ (value_at p x y)

  abbrev front_place : ℕ
  front_place = greatest_place (map at (front_planes s.fronts))

  abbrev back_place : ℕ
  back_place = greatest_place (map turned (back_planes s.backs end))

  above_is : (p q : Linear) → le_z (pos 0) (value_at (above p q) x y) ≡ lt_z (at q) (at p)
  above_is p q = rw (value_at-less_one (minus p q) x y, value_at-minus p q x y) (above_test (at p) (at q))

  at_least_is : (p q : Linear) → le_z (pos 0) (value_at (at_least p q) x y) ≡ le_z (at q) (at p)
  at_least_is p q = rw (value_at-minus p q x y) (at_least_test (at p) (at q))

  front_low : front_place ≤ length s.fronts
  front_low = grind (arith, nat_tests, common_steps, some_values, fronts_size, greatest_there)

  back_low : back_place ≤ length s.backs
  back_low = grind (arith, nat_tests, common_steps, some_values, backs_size, greatest_there)

  front_value : at (get_or (front_planes s.fronts) front_place (level 0)) ≡ enters_at s x y
  front_value =
      let n = some_values at (front_planes s.fronts) (length s.fronts) (fronts_size s) in
      let room : front_place < length (front_planes s.fronts) = omega (arith, front_low, fronts_size s) in
      let v = at (get_or (front_planes s.fronts) front_place (level 0)) in
      let here : get_or (map at (front_planes s.fronts)) front_place (pos 0) ≡ v =
      get_or-map at (front_planes s.fronts) front_place (level 0) (pos 0) room in
      let bound : (z : ℤ) → le_z v z ≡ le_z (enters_at s x y) z =
      λ z. rw (← here) (greatest_bounds (map at (front_planes s.fronts)) (pos 0) z (omega (arith, n))
      ∙ fronts_below s end x y z) in
      le_ext v (enters_at s x y) (bound v) (bound (enters_at s x y))

  back_value : at (get_or (back_planes s.backs end) back_place (level 0)) ≡ leaves_at s end x y
  back_value =
      let n = some_values turned (back_planes s.backs end) (length s.backs) (backs_size s end) in
      let room : back_place < length (back_planes s.backs end) = omega (arith, back_low, backs_size s end) in
      let v : ℤ = at (get_or (back_planes s.backs end) back_place (level 0)) in
      let here : get_or (map turned (back_planes s.backs end)) back_place (pos 0) ≡ neg_ℤ v =
      get_or-map turned (back_planes s.backs end) back_place (level 0) (pos 0) room in
      let bound : (z : ℤ) → lt_z z v ≡ lt_z z (leaves_at s end x y) =
      λ z. sym (before_turned z v) ∙ rw (← here) (greatest_bounds (map turned (back_planes s.backs end)) (pos 0)
      (neg_ℤ z -ℤ pos 1) (omega (arith, n)) ∙ turned_backs s end x y z) in
      lt_ext v (leaves_at s end x y) (bound v) (bound (leaves_at s end x y))

  front_is : (i : ℕ) → i ≤ length s.fronts → hold_at (front_edges s end i) x y ≡ (is_met s end x y && eqb i front_place)
  front_is i low =
      let ps = front_planes s.fronts in
      let p = get_or ps i (level 0) in
      let room : i < length ps = omega (arith, fronts_size s) in
      kept_parts s.sides (map (λ q. above p q) (take i ps)) (map (λ q. at_least p q) (drop (i + 1) ps))
      (map (λ q. above q p) (back_planes s.backs end)) x y
      ∙ rw (
        part (λ q. above p q) at (λ u. lt_z u (at p)) x y (λ q. above_is p q) (take i ps),
        part (λ q. at_least p q) at (λ u. le_z u (at p)) x y (λ q. at_least_is p q) (drop (i + 1) ps),
        part (λ q. above q p) at (λ u. lt_z (at p) u) x y (λ q. above_is q p) (back_planes s.backs end),
      )
      (one_place (hold_at s.sides x y) (is_first_greatest (map at (take i ps)) (at p) (map at (drop (i + 1) ps)))
      (list_all (λ u. lt_z (at p) u) (map at (back_planes s.backs end)))
      (lt_z (enters_at s x y) (leaves_at s end x y)) (eqb i front_place)
      (lead_is at ps i room)
      (λ e. backs_over s end x y (at p) ∙ ap (λ v. lt_z v (leaves_at s end x y))
      (ap (λ j. at (get_or ps j (level 0))) (eqb_holds i front_place e) ∙ front_value)))

  back_is : (i : ℕ) → i ≤ length s.backs → hold_at (back_edges s end i) x y ≡ (is_met s end x y && eqb i back_place)
  back_is i low =
      let ps = back_planes s.backs end in
      let p = get_or ps i (level 0) in
      let room : i < length ps = omega (arith, backs_size s end) in
      kept_parts s.sides (map (λ q. above q p) (take i ps)) (map (λ q. at_least q p) (drop (i + 1) ps))
      (map (λ q. above p q) (front_planes s.fronts)) x y
      ∙ rw (
        part (λ q. above q p) turned (λ u. lt_z u (turned p)) x y (λ q. above_is q p ∙ lt_turned (at p) (at q))
            (take i ps),
        part (λ q. at_least q p) turned (λ u. le_z u (turned p)) x y (λ q. at_least_is q p ∙ le_turned (at p) (at q))
            (drop (i + 1) ps),
        part (λ q. above p q) at (λ u. lt_z u (at p)) x y (λ q. above_is p q) (front_planes s.fronts),
      )
      (one_place (hold_at s.sides x y) (is_first_greatest (map turned (take i ps)) (turned p)
      (map turned (drop (i + 1) ps)))
      (list_all (λ u. lt_z u (at p)) (map at (front_planes s.fronts))) (lt_z (enters_at s x y) (leaves_at s end x y))
      (eqb i back_place)
      (lead_is turned ps i room)
      (λ e. fronts_under s end x y (at p) ∙ ap (λ v. lt_z (enters_at s x y) v)
      (ap (λ j. at (get_or ps j (level 0))) (eqb_holds i back_place e) ∙ back_value)))

  plane_front : (face : ℕ) → face ≤ length s.fronts → face_plane s end face ≡ get_or (front_planes s.fronts) face
      (level 0)
  plane_front face low =
      get_or_append_left (front_planes s.fronts) (back_planes s.backs end) (level 0) face (omega (arith, fronts_size s))

  plane_back : (face : ℕ) → length s.fronts + 1 ≤ face → face_plane s end face ≡ get_or (back_planes s.backs end)
      (face - (length s.fronts + 1)) (level 0)
  plane_back face high = grind (arith, get_or-append_right, fronts_size)

  least_index : (face : ℕ) → face < face_count s → is_front_face s face ≡ false → value_at (face_plane s end face) x y
      ≡ leaves_at s end x y → covering_back s end x y ≤ face
  least_index face there back same =
      let n = length s.fronts + 1 in
      let high : n ≤ face = lt_fails face (length s.fronts + 1) back in
      let i = face - n in
      let v : ℤ = leaves_at s end x y in
      let room : i < length (back_planes s.backs end) = omega (arith, backs_size s end) in
      let place : i < length (map turned (back_planes s.backs end)) =
      omega (arith, some_values turned (back_planes s.backs end) (length s.backs) (backs_size s end)) in
      let here : get_or (map turned (back_planes s.backs end)) i (pos 0) ≡ neg_ℤ v =
      grind (arith, get_or-map, neg_ℤ, plane_back) in
      let least : neg_ℤ (v -ℤ pos 1) -ℤ pos 1 ≡ neg_ℤ v = omega (arith, ints) in
      let all : list_all (λ u. le_z u (neg_ℤ v)) (map turned (back_planes s.backs end)) ≡ true =
      ap (λ w. list_all (λ u. le_z u w) (map turned (back_planes s.backs end))) (sym least)
      ∙ turned_backs s end x y (v -ℤ pos 1) ∙ lt_before v in
      omega (
        arith,
        greatest_first (map turned (back_planes s.backs end)) i (pos 0) place
            (ap (λ w. list_all (λ u. le_z u w) (map turned (back_planes s.backs end))) here ∙ all),
      )

  first_index : (face : ℕ) → face ≤ length s.fronts → value_at (face_plane s end face) x y ≡ enters_at s x y
      → front_place ≤ face
  first_index face low same =
      let v : ℤ = enters_at s x y in
      let room : face < length (front_planes s.fronts) = omega (arith, fronts_size s) in
      let place : face < length (map at (front_planes s.fronts)) =
      omega (arith, some_values at (front_planes s.fronts) (length s.fronts) (fronts_size s)) in
      let here : get_or (map at (front_planes s.fronts)) face (pos 0) ≡ v =
      get_or-map at (front_planes s.fronts) face (level 0) (pos 0) room ∙ sym (ap at (plane_front face low)) ∙ same in
      greatest_first (map at (front_planes s.fronts)) face (pos 0) place
      (ap (λ w. list_all (λ u. le_z u w) (map at (front_planes s.fronts))) here ∙ fronts_below s end x y v
      ∙ le_same v)

  number_front : (face : ℕ) → face ≤ length s.fronts → face_number s face
      ≡ get_or (s.near_number ∷ numbers_in_faces s.fronts) face 0
  number_front face low = grind (arith, get_or_append_left, length-map)

  pub covered_once : IsCoveredOnce s end x y
  covered_once = grind (
    arith,
    lt_holds,
    front_is,
    lt_fails,
    back_is,
    lt_true,
    front_low,
    plane_front,
    front_value,
    number_front,
    numbers_grow,
    first_index,
    back_low,
    lt_false,
    plane_back,
    back_value,
    least_index,
    cells_are,
    depths_are,
  )

-- The edges of a face one by one, how many there are, and their range.
use Rattle.px_num.proofs.Basics.{rules, ◌≡◌, ◌<◌, ◌≤◌, ◌+◌, ◌-◌, ◌^◌, All, ℕ, List, [], ◌∷◌, ◌++◌, length, map, take}
use Rattle.px_num.proofs.Basics.{drop, get_or, ap, sym, ◌∙◌, arith, append_assoc, length-append, inl, inr, nat_tests}
use Rattle.px_num.proofs.Basics.{common_steps, cases_lt, length-map, get_or_append_left, get_or-append_right}
use Rattle.px_num.proofs.Basics.{get_or-map, get_or-take, take_all, take_more}
use Rattle.px_face.proofs.Words.{above, at_least, back_edges, back_planes, edge_count, edges, face_count, front_planes}
use Rattle.px_face.proofs.Words.{get_or-drop, IsInTreeRange, IsLawfulSolid, length-drop, length-take-le, level, Linear}
use Rattle.px_face.proofs.Words.{lt_false, lt_true, SolidView}
use Rattle.px_face.specs.Orders.{back_orders, front_orders}
use Rattle.px_face.proofs.RangeLemmas.{back_range, backs_size, front_range, fronts_size}

-- a form among those before place i, those after it, and those of the other kind
module _ (f g h : Linear → Linear) (ps qs : List Linear) (n i : ℕ) (size : length ps ≡ n + 1) (there : i ≤ n) where
  abbrev before : List Linear
  before = map f (take i ps)

  abbrev after : List Linear
  after = map g (drop (i + 1) ps)

  before_size : length before ≡ i
  before_size = length-map (take i ps) f ∙ length-take-le i ps (omega (arith, size))

  after_size : length after ≡ n - i
  after_size = length-map (drop (i + 1) ps) g ∙ length-drop (i + 1) ps ∙ omega (arith, size)

  kind_size : length (before ++ after) ≡ n
  kind_size = length-append before after ∙ omega (arith, before_size, after_size)

  pub form_before : (k : ℕ) (d : Linear) → k < i → get_or (before ++ after ++ map h qs) k d ≡ f (get_or ps k d)
  form_before k d low =
      grind (arith, get_or_append_left, kind_size, before_size, get_or-map, length-take-le, get_or-take)

  pub form_after : (k : ℕ) (d : Linear) → i ≤ k → k < n → get_or (before ++ after ++ map h qs) k d
      ≡ g (get_or ps (k + 1) d)
  form_after k d low high =
      let moved : i + 1 + (k - i) ≡ k + 1 = omega arith in
      get_or_append_left (before ++ after) (map h qs) d k (omega (arith, kind_size))
      ∙ get_or-append_right before after i k d before_size low
      ∙ get_or-map g (drop (i + 1) ps) (k - i) d d (omega (arith, length-drop (i + 1) ps, size))
      ∙ ap g (get_or-drop (i + 1) ps (k - i) d ∙ ap (λ j. get_or ps j d) moved)

  pub form_beyond : (k : ℕ) (d : Linear) → n ≤ k → k < n + length qs → get_or (before ++ after ++ map h qs) k d
      ≡ h (get_or qs (k - n) d)
  form_beyond k d low high = grind (arith, get_or-append_right, kind_size, get_or-map)

-- one form of a front, or of a back, from what was compared
module _ (s : SolidView) (end i k : ℕ) (r p q : Linear) where
  pub front_form_beyond : i ≤ length s.fronts → length s.fronts ≤ k → k < length s.fronts + length s.backs + 1
      → p ≡ get_or (front_planes s.fronts) i (level 0)
      → q ≡ get_or (back_planes s.backs end) (k - length s.fronts) (level 0) → r ≡ above q p
      → r ≡ get_or (front_orders s end i) k (level 0)
  front_form_beyond there low high e f g = grind (arith, form_beyond, fronts_size, backs_size)

  pub front_form_before : i ≤ length s.fronts → k < i → p ≡ get_or (front_planes s.fronts) i (level 0)
      → q ≡ get_or (front_planes s.fronts) k (level 0) → r ≡ above p q → r ≡ get_or (front_orders s end i) k (level 0)
  front_form_before there low e f g =
      let o = get_or (front_planes s.fronts) i (level 0) in
      rw (g, f, e)
      (sym (form_before (λ q. above o q) (λ q. at_least o q) (λ q. above q o) (front_planes s.fronts)
      (back_planes s.backs end) (length s.fronts) i (fronts_size s) there k (level 0) low))

  pub front_form_after : i ≤ length s.fronts → i ≤ k → k < length s.fronts
      → p ≡ get_or (front_planes s.fronts) i (level 0) → q ≡ get_or (front_planes s.fronts) (k + 1) (level 0)
      → r ≡ at_least p q → r ≡ get_or (front_orders s end i) k (level 0)
  front_form_after there low high e f g =
      let o = get_or (front_planes s.fronts) i (level 0) in
      rw (g, f, e)
      (sym (form_after (λ q. above o q) (λ q. at_least o q) (λ q. above q o) (front_planes s.fronts)
      (back_planes s.backs end) (length s.fronts) i (fronts_size s) there k (level 0) low high))

  pub back_form_beyond : i ≤ length s.backs → length s.backs ≤ k → k < length s.fronts + length s.backs + 1
      → p ≡ get_or (back_planes s.backs end) i (level 0)
      → q ≡ get_or (front_planes s.fronts) (k - length s.backs) (level 0) → r ≡ above p q
      → r ≡ get_or (back_orders s end i) k (level 0)
  back_form_beyond there low high e f g =
      let o = get_or (back_planes s.backs end) i (level 0) in
      rw (g, f, e)
      (sym (form_beyond (λ q. above q o) (λ q. at_least q o) (λ q. above o q) (back_planes s.backs end)
      (front_planes s.fronts) (length s.backs) i (backs_size s end) there k (level 0) low
      (omega (arith, fronts_size s))))

  pub back_form_before : i ≤ length s.backs → k < i → p ≡ get_or (back_planes s.backs end) i (level 0)
      → q ≡ get_or (back_planes s.backs end) k (level 0) → r ≡ above q p → r ≡ get_or (back_orders s end i) k (level 0)
  back_form_before there low e f g = grind (arith, nat_tests, common_steps, backs_size)

  pub back_form_after : i ≤ length s.backs → i ≤ k → k < length s.backs
      → p ≡ get_or (back_planes s.backs end) i (level 0) → q ≡ get_or (back_planes s.backs end) (k + 1) (level 0)
      → r ≡ at_least q p → r ≡ get_or (back_orders s end i) k (level 0)
  back_form_after there low high e f g =
      let o = get_or (back_planes s.backs end) i (level 0) in
      rw (g, f, e)
      (sym (form_after (λ q. above q o) (λ q. at_least q o) (λ q. above o q) (back_planes s.backs end)
      (front_planes s.fronts) (length s.backs) i (backs_size s end) there k (level 0) low high))

module _ (s : SolidView) (end i : ℕ) where
  pub back_beyond : (k : ℕ) (d : Linear) → length s.sides ≤ k → get_or (back_edges s end i) k d
      ≡ get_or (back_orders s end i) (k - length s.sides) d
  back_beyond k d low = grind (arith, append_assoc, get_or-append_right)

pub edges_count : (s : SolidView) (end face : ℕ) → face < face_count s → length (edges s end face) ≡ edge_count s
edges_count s end face there = grind (arith, common_steps, backs_size, length-append, length-map, fronts_size)

pub front_form : (s : SolidView) (end face k : ℕ) (r : Linear) → face < length s.fronts + 1 → length s.sides ≤ k
    → r ≡ get_or (front_orders s end face) (k - length s.sides) (level 0) → r ≡ get_or (edges s end face) k (level 0)
front_form s end face k r front low is =
    rw (lt_true face (length s.fronts + 1) front) (is ∙ sym (search (rules, append_assoc, get_or-append_right)))

pub edges_range : (s : SolidView) → IsLawfulSolid s → (end : ℕ) → end < 2 ^ 32 → (face : ℕ) → face < face_count s
    → All IsInTreeRange (edges s end face)
edges_range s lawful end small face there = elim (cases_lt face (length s.fronts + 1)) [
  | inl front ↦ rw (lt_true face (length s.fronts + 1) front) (front_range s lawful end small face (omega arith))
  | inr back ↦ rw (lt_false face (length s.fronts + 1) back)
      (back_range s lawful end small (face - (length s.fronts + 1)) (omega arith))
]

pub edge_range : (s : SolidView) → IsLawfulSolid s → (end : ℕ) → end < 2 ^ 32 → (face k : ℕ) (r : Linear)
    → face < face_count s → k < edge_count s → r ≡ get_or (edges s end face) k (level 0) → IsInTreeRange r
edge_range s lawful end small face k r there low is =
    grind (arith, edges_count s end face there, edges_range s lawful end small face there)

pub edges_more : (s : SolidView) (end face k : ℕ) (old new : List Linear) (r : Linear) → face < face_count s
    → old ≡ take k (edges s end face) → r ≡ get_or (edges s end face) k (level 0)
    → new ≡ old ++ r ∷ [] → k < edge_count s → new ≡ take (k + 1) (edges s end face)
edges_more s end face k old new r there is this more low =
    more ∙ rw (is, this) (sym (take_more (edges s end face) k (level 0) (omega (arith, edges_count s end face there))))

pub all_edges : (s : SolidView) (end face k : ℕ) → face < face_count s → edge_count s ≤ k → take k (edges s end face)
    ≡ edges s end face
all_edges s end face k there high = take_all k (edges s end face) (omega (arith, edges_count s end face there))

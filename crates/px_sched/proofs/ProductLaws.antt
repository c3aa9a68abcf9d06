-- The literals of a product, and what it shows where it holds.
use Rattle.px_num.proofs.Basics.{common_steps, ◌≡◌, ◌<◌, ◌≤◌, ◌+◌, ℕ, zero, suc, Bool, true, false, not, List, ◌∷◌, []}
use Rattle.px_num.proofs.Basics.{length, get_or, ap, sym, ◌∙◌, subst, arith, inl, inr, if◌then◌else◌, list_all}
use Rattle.px_num.proofs.Basics.{list_any, option_map_or, cases_Bool, cases_eq, sum_by-cons, slice_get-get_or}
use Rattle.px_sched.proofs.Words.{and_left, and_right, AreNumberedFrom, backs_at, Cell, Depths, depths_of, faces_in}
use Rattle.px_sched.proofs.Words.{faces_of, fronts_at, has_face, HasSolidsBelow, holds, is_void, IsNumberedFrom}
use Rattle.px_sched.proofs.Words.{KeyedPixel, leaf_cell, Literal, literal, literals, literals_of, no_cell, no_solid}
use Rattle.px_sched.proofs.Words.{or_left, or_right, Product, SceneView, shows, solid_cell, solid_of, SolidSet}
use Rattle.px_sched.proofs.Words.{SolidView}
use Rattle.px_normal.specs.Sets.{below, has, solids}
use Rattle.px_sched.proofs.BlockLemmas.{suited}
use Rattle.px_sched.proofs.MemberLaws.{From, In, all_of, any_in, any_out, face_in, in_either, in_face, in_filter}
use Rattle.px_sched.proofs.MemberLaws.{in_left, in_map, in_right, one_of, out_filter, out_map}

in_below : (n q : ℕ) → In q (below n) → q < n
in_below zero q h = absurd h
in_below (suc n) q h = elim (in_either q (below n) (n ∷ []) h) [
  | inl a ↦ let low = in_below n q a in omega arith
  | inr b ↦ elim b [ inl e ↦ omega arith | inr c ↦ absurd c ]
]

pub in_solids : (set : SolidSet) (q : ℕ) → In q (solids set) → (q < 256) × (has set q ≡ true)
unfolding solids
in_solids set q h = let r = out_filter (has set) (below 256) q h in (in_below 256 q r.0, r.1)

below_in : (n q : ℕ) → q < n → In q (below n)
below_in zero q low = absurd (omega arith)
below_in (suc n) q low = elim (cases_eq q n) [
  | inl e ↦ in_right q (below n) (n ∷ []) (inl (sym e))
  | inr ne ↦ in_left q (below n) (n ∷ []) (below_in n q (omega arith))
]

pub in_solids_of : (set : SolidSet) (q : ℕ) → q < 256 → has set q ≡ true → In q (solids set)
unfolding solids
in_solids_of set q low is = in_filter (has set) (below 256) q (below_in 256 q low) is

module _ (p : Product) where
  -- what holds of each plain literal and each barred one
  pub each_literal : (P : Literal → Type 0) → ((q : ℕ) → In q (solids p.plain) → P (literal true q))
      → ((q : ℕ) → In q (solids p.barred) → P (literal false q)) → (r : Literal) → In r (literals p) → P r
  each_literal P plain barred r h =
      elim (in_either r (literals_of true (solids p.plain)) (literals_of false (solids p.barred)) h) [
        | inl a ↦ let o = out_map (literal true) (solids p.plain) r a in subst P o.gives (plain o.from o.there)
        | inr b ↦ let o = out_map (literal false) (solids p.barred) r b in subst P o.gives (barred o.from o.there)
      ]

-- the literals are solids of the scene, and no two of one solid
pub record IsFit (count : ℕ) (p : Product) : Type 0 where
  pub known : (q : Literal) → In q (literals p) → q.solid < count
  pub once : (q r : Literal) → In q (literals p) → In r (literals p) → r.solid ≡ q.solid → r ≡ q

pub fit : (count : ℕ) (p : Product) → HasSolidsBelow count p → is_void p ≡ false → IsFit count p
fit count p low apart = record {
  known = each_literal p (λ q. q.solid < count)
      (λ q h. let i = in_solids p.plain q h in low.0 q i.0 i.1)
      (λ q h. let i = in_solids p.barred q h in low.1 q i.0 i.1);
  once = λ q r at_q at_r.
      each_literal p (λ q. (r : Literal) → In r (literals p) → r.solid ≡ q.solid → r ≡ q)
      (λ q h. each_literal p (λ r. r.solid ≡ q → r ≡ literal true q)
      (λ r g e. ap (literal true) e) (λ r g e. absurd (never q h (subst (λ s. In s (solids p.barred)) e g))))
      (λ q h. each_literal p (λ r. r.solid ≡ q → r ≡ literal false q)
      (λ r g e. absurd (never r g (subst (λ s. In s (solids p.barred)) (sym e) h))) (λ r g e. ap (literal false) e))
      q at_q r at_r;
}
  where
    never : (q : ℕ) → In q (solids p.plain) → In q (solids p.barred) → ⊥
    never q h g = grind (arith, any_in, in_solids)

pub leaf_is : (scene : SceneView) (d : Depths) (x y z q : ℕ) → q < length scene.solids
    → leaf_cell scene.solids d x y z q ≡ solid_cell d x y z (solid_of scene q)
leaf_is scene d x y z q h =
    ap (λ found. option_map_or (solid_cell d x y z) found no_cell) (slice_get-get_or scene.solids q no_solid h)

-- what a literal shows at a cell
abbrev pub shown_of : SolidView → (plain : Bool) → Depths → (x y z : ℕ) → List ℕ
shown_of s plain d x y z = if plain then fronts_at s d x y z else backs_at s d x y z

module _ (scene : SceneView) (l : KeyedPixel) (p : Product) (whole : IsFit (length scene.solids) p) (z : ℕ) where
  abbrev d : Depths
  d = depths_of scene

  abbrev at : ℕ → Cell
  at = leaf_cell scene.solids d l.x l.y z

  plain_at : (q : ℕ) → In q (solids p.plain) → at q ≡ solid_cell d l.x l.y z (solid_of scene q)
  plain_at q h = leaf_is scene d l.x l.y z q (whole.known (literal true q) (grind (arith, in_left, in_map)))

  barred_at : (q : ℕ) → In q (solids p.barred) → at q ≡ solid_cell d l.x l.y z (solid_of scene q)
  barred_at q h = leaf_is scene d l.x l.y z q (whole.known (literal false q) (grind (arith, in_right, in_map)))

  -- a product holds where each literal has its cell
  pub holds_there : ((r : Literal) → In r (literals p) → suited scene l z r ≡ true) → holds at p ≡ true
  holds_there each =
      rw (all_of (λ q. (at q).member) (solids p.plain) (λ q h. ap (λ c. c.member) (plain_at q h)
      ∙ each (literal true q) (grind (arith, in_left, in_map))))
      (all_of (λ q. not (at q).member) (solids p.barred) (λ q h. ap (λ c. not c.member) (barred_at q h)
      ∙ each (literal false q) (grind (arith, in_right, in_map))))

  pub each_holds : holds at p ≡ true → (r : Literal) → In r (literals p) → suited scene l z r ≡ true
  each_holds h =
      let plain = list_all (λ q. (at q).member) (solids p.plain) in
      let barred = list_all (λ q. not (at q).member) (solids p.barred) in
      each_literal p (λ r. suited scene l z r ≡ true)
      (λ q i. sym (ap (λ c. c.member) (plain_at q i))
      ∙ one_of (λ q. (at q).member) (solids p.plain) q i (and_left plain barred h))
      (λ q i. sym (ap (λ c. not c.member) (barred_at q i))
      ∙ one_of (λ q. not (at q).member) (solids p.barred) q i (and_right plain barred h))

  -- a product shows what a literal shows
  abbrev pub Gives : ℕ → Literal → Type 0
  Gives n r = In n (shown_of (solid_of scene r.solid) r.plain d l.x l.y z)

  pub shows_there : (n : ℕ) (r : Literal) → In r (literals p) → Gives n r → shows at n p ≡ true
  shows_there n =
      each_literal p (λ r. Gives n r → shows at n p ≡ true)
      (λ q i g. or_left _ _ (any_in (λ q. has_face n (at q).shown) (solids p.plain) q i
      (ap (λ c. has_face n c.shown) (plain_at q i)
      ∙ in_face n _ g)))
      (λ q i g. or_right _ _ (any_in (λ q. has_face n (at q).hidden) (solids p.barred) q i
      (ap (λ c. has_face n c.hidden) (barred_at q i)
      ∙ in_face n _ g)))

  pub shows_out : (n : ℕ) → shows at n p ≡ true → From (Gives n) (literals p)
  shows_out n h = elim (cases_Bool (list_any (λ q. has_face n (at q).shown) (solids p.plain))) [
    | inl yea ↦ by_plain (any_out (λ q. has_face n (at q).shown) (solids p.plain) yea)
    | inr nay ↦ by_barred (any_out (λ q. has_face n (at q).hidden) (solids p.barred) (rw nay at h))
  ]
    where
      by_plain : From (λ q. has_face n (at q).shown ≡ true) (solids p.plain) → From (Gives n) (literals p)
      by_plain o = record {
        from = literal true o.from;
        there = grind (arith, in_left, in_map);
        gives = face_in n _ (sym (ap (λ c. has_face n c.shown) (plain_at o.from o.there)) ∙ o.gives);
      }

      by_barred : From (λ q. has_face n (at q).hidden ≡ true) (solids p.barred) → From (Gives n) (literals p)
      by_barred o = record {
        from = literal false o.from;
        there = grind (arith, in_right, in_map);
        gives = face_in n _ (sym (ap (λ c. has_face n c.hidden) (barred_at o.from o.there)) ∙ o.gives);
      }

-- the numbers of one of the solids
pub record IsNumberedIn (bound : ℕ) (s : SolidView) : Type 0 where
  pub first : ℕ
  pub numbers : IsNumberedFrom first s
  pub within : first + faces_in s ≤ bound

pub numbered_at : (ss : List SolidView) (first q : ℕ) → AreNumberedFrom first ss → q < length ss
    → IsNumberedIn (first + faces_of ss) (get_or ss q no_solid)
numbered_at [] first q numbered h = absurd (omega arith)
numbered_at (s ∷ ss) first zero numbered h = grind (arith, sum_by-cons faces_in s ss)
numbered_at (s ∷ ss) first (suc q) numbered h =
    grind (arith, common_steps, numbered_at ss (first + faces_in s) q numbered.1 (omega arith))

-- Live products: a product of both is live only where each is, and one that holds at a place is live.
use Rattle.px_num.proofs.Basics.{nat_tests, common_steps, ℕ, ◌≡◌, ◌<◌, ◌&&◌, not, Bool, true, false, List, [], ◌∷◌}
use Rattle.px_num.proofs.Basics.{◌++◌, refl, ap, sym, ◌∙◌, arith, map, fold, min, nat_le, Option, Some, None, list_all}
use Rattle.px_num.proofs.Basics.{filter, filter-append}
use Rattle.px_normal.proofs.Words.{all-each, all-joined, and_left, and_right, both, box_of_all, Cell, CellBox}
use Rattle.px_normal.proofs.Words.{Combination, combination_of, combined_forms, complement_of, crossed, Forms, has}
use Rattle.px_normal.proofs.Words.{has-joined, has_some_cell, holds, is_void, live, not_both, not_false, Op, or_left}
use Rattle.px_normal.proofs.Words.{or_right, Product, Sense, sets_joined, shows, solids, SolidSet, sum_in, sum_when}
use Rattle.std.proofs.lemmas.Map.Views.{any-filter_same}
use Rattle.px_normal.specs.Boxes.{lies_in, has_cell, common_part, everything, narrowed, is_in_box}
use Rattle.px_normal.specs.Live.{is_live}
use Rattle.px_normal.specs.LiveLaw.{IsPlaceInBoxes, ShowTheSame}
use Rattle.px_normal.proofs.BoxLaws.{in_everything, in_narrowed}
use Rattle.px_normal.proofs.MeetsLaws.{no_void}

and_mono : {a b c d : Bool} → (a ≡ true → c ≡ true) → (b ≡ true → d ≡ true) → a && b ≡ true → c && d ≡ true
and_mono {a = a} {b = b} first second e = rw (first (and_left a b e), second (and_right a b e)) refl

most_past : (m n x : ℕ) → nat_le x (min m n) ≡ true → nat_le x m ≡ true
most_past m n x e = grind arith

most_other : (m n x : ℕ) → nat_le x (min m n) ≡ true → nat_le x n ≡ true
most_other m n x e = grind arith

-- cells of a common part
module _ (x y z : ℕ) where
  in_first : (a b : CellBox) → lies_in (common_part a b) x y z ≡ true → lies_in a x y z ≡ true
  in_first a b e = grind (arith, and_mono, most_past)

  in_second : (a b : CellBox) → lies_in (common_part a b) x y z ≡ true → lies_in b x y z ≡ true
  in_second a b e = grind (arith, and_mono, most_other)

  of_narrowed : (a b : Option CellBox) → is_in_box (narrowed a b) x y z ≡ true → (is_in_box a x y z ≡ true)
      × (is_in_box b x y z ≡ true)
  of_narrowed x y e = grind (arith, in_first, in_second)

  has_the_cell : (box : Option CellBox) → is_in_box box x y z ≡ true → has_some_cell box ≡ true
  has_the_cell x e = grind arith

  module _ (boxes : ℕ → Option CellBox) where
    in_all : (start : Option CellBox) (qs : List ℕ) → is_in_box start x y z ≡ true
        → list_all (λ q. is_in_box (boxes q) x y z) qs ≡ true
        → is_in_box (fold (λ part q. narrowed part (boxes q)) start qs) x y z ≡ true
    in_all start [] e f = e
    in_all start (q ∷ qs) e f =
        let rest = list_all (λ q. is_in_box (boxes q) x y z) qs
        in in_all (narrowed start (boxes q)) qs
        (in_narrowed x y z start (boxes q) e (and_left (is_in_box (boxes q) x y z) rest f))
        (and_right (is_in_box (boxes q) x y z) rest f)

    in_start : (start : Option CellBox) (qs : List ℕ)
        → is_in_box (fold (λ part q. narrowed part (boxes q)) start qs) x y z ≡ true → is_in_box start x y z ≡ true
    in_start start [] e = e
    in_start start (q ∷ qs) e = (of_narrowed start (boxes q) (in_start (narrowed start (boxes q)) qs e)).0

    in_each : (start : Option CellBox) (qs : List ℕ) → is_in_box (fold (λ part q. narrowed part (boxes q)) start qs) x
        y z
        ≡ true → list_all (λ q. is_in_box (boxes q) x y z) qs ≡ true
    in_each start [] e = refl
    in_each start (q ∷ qs) e = grind (arith, of_narrowed, in_start, in_each (narrowed start (boxes q)) qs e)

first_cell : (b : CellBox) → has_cell b ≡ true → lies_in b b.x0 b.y0 b.z0 ≡ true
first_cell b some = grind arith

-- the boxes of fewer solids have the cell that those of more have
fewer_solids : (boxes : ℕ → Option CellBox) (few many : List ℕ)
    → ((test : ℕ → Bool) → list_all test many ≡ true → list_all test few ≡ true)
    → has_some_cell (box_of_all boxes many) ≡ true → has_some_cell (box_of_all boxes few) ≡ true
fewer_solids boxes few many each some = at_first (box_of_all boxes many) refl some where
  at_first : (box : Option CellBox) → box_of_all boxes many ≡ box → has_some_cell box ≡ true
      → has_some_cell (box_of_all boxes few) ≡ true
  at_first None is none = absurd cc
  at_first (Some b) is some =
      let x = b.x0 in let y = b.y0 in let z = b.z0
      in let within : is_in_box (box_of_all boxes many) x y z ≡ true = ap (λ box. is_in_box box x y z) is
      ∙ first_cell b some
      in has_the_cell x y z (box_of_all boxes few)
      (in_all x y z boxes (Some everything) few (in_start x y z boxes (Some everything) many within)
      (each (λ q. is_in_box (boxes q) x y z) (in_each x y z boxes (Some everything) many within)))

-- the boxes of two sets have a common cell where their common parts have one
part_of_both : (boxes : ℕ → Option CellBox) (a b : SolidSet)
    → has_some_cell (narrowed (box_of_all boxes (solids a)) (box_of_all boxes (solids b)))
    ≡ has_some_cell (box_of_all boxes (solids (sets_joined a b)))
part_of_both boxes a b =
    same_test _ _ (at_first (narrowed (box_of_all boxes (solids a)) (box_of_all boxes (solids b))) refl)
    (at_common (box_of_all boxes (solids (sets_joined a b))) refl) where
      same_test : (u v : Bool) → (u ≡ true → v ≡ true) → (v ≡ true → u ≡ true) → u ≡ v
      same_test true v there back = sym (there refl)
      same_test false true there back = back refl
      same_test false false there back = refl

      at_first : (box : Option CellBox) → narrowed (box_of_all boxes (solids a)) (box_of_all boxes (solids b)) ≡ box
          → has_some_cell box ≡ true → has_some_cell (box_of_all boxes (solids (sets_joined a b))) ≡ true
      at_first None is some = absurd cc
      at_first (Some c) is some =
          let x = c.x0 in let y = c.y0 in let z = c.z0
          in let within = of_narrowed x y z (box_of_all boxes (solids a)) (box_of_all boxes (solids b))
          (ap (λ box. is_in_box box x y z) is ∙ first_cell c some)
          in let all : list_all (λ q. is_in_box (boxes q) x y z) (solids (sets_joined a b)) ≡ true =
          all-joined (λ q. is_in_box (boxes q) x y z) a b ∙ rw (
            in_each x y z boxes (Some everything) (solids a) within.0,
            in_each x y z boxes (Some everything) (solids b) within.1,
          ) refl
          in has_the_cell x y z (box_of_all boxes (solids (sets_joined a b)))
          (in_all x y z boxes (Some everything) (solids (sets_joined a b))
          (in_start x y z boxes (Some everything) (solids a)
          within.0) all)

      at_common : (box : Option CellBox) → box_of_all boxes (solids (sets_joined a b)) ≡ box → has_some_cell box ≡ true
          → has_some_cell (narrowed (box_of_all boxes (solids a)) (box_of_all boxes (solids b))) ≡ true
      at_common None is some = absurd cc
      at_common (Some c) is some =
          let x = c.x0 in let y = c.y0 in let z = c.z0
          in let within : is_in_box (box_of_all boxes (solids (sets_joined a b))) x y z ≡ true =
          ap (λ box. is_in_box box x y z) is ∙ first_cell c some
          in let start = in_start x y z boxes (Some everything) (solids (sets_joined a b)) within
          in let test = λ (q : ℕ). is_in_box (boxes q) x y z
          in let all : list_all test (solids a) && list_all test (solids b) ≡ true =
          sym (all-joined test a b) ∙ in_each x y z boxes (Some everything) (solids (sets_joined a b)) within
          in has_the_cell x y z _ (in_narrowed x y z (box_of_all boxes (solids a)) (box_of_all boxes (solids b))
          (in_all x y z boxes (Some everything) (solids a) start
          (and_left (list_all test (solids a)) (list_all test (solids b)) all))
          (in_all x y z boxes (Some everything) (solids b) start
          (and_right (list_all test (solids a)) (list_all test (solids b)) all)))

pub live_by_parts : (boxes : ℕ → Option CellBox) (p q : Product) (first second : Option CellBox)
    → first ≡ box_of_all boxes (solids p.plain) → second ≡ box_of_all boxes (solids q.plain)
    → not (is_void (both p q)) && has_some_cell (narrowed first second) ≡ is_live boxes (both p q)
unfolding is_live
live_by_parts boxes p q first second one other =
    rw (one, other) (ap (λ test. not (is_void (both p q)) && test) (part_of_both boxes p.plain q.plain))

module _ (boxes : ℕ → Option CellBox) where
  -- a product of some of the solids of a live one is live
  live_of_more : (p more : Product) → ((q : ℕ) → q < 256 → has p.plain q ≡ true → has more.plain q ≡ true)
      → ((q : ℕ) → q < 256 → has p.barred q ≡ true → has more.barred q ≡ true)
      → is_live boxes more ≡ true → is_live boxes p ≡ true
  unfolding is_live
  live_of_more p more plain barred live = grind (
    arith,
    live,
    is_void,
    no_void,
    all-each,
    not_false,
    box_of_all,
    solids,
    fewer_solids,
    and_right,
    not,
  )

  live_left : (p q : Product) → is_live boxes (both p q) ≡ true → is_live boxes p ≡ true
  live_left p q = live_of_more p (both p q)
      (λ s lt there. has-joined p.plain q.plain s lt ∙ or_left (has p.plain s) (has q.plain s) there)
      (λ s lt there. has-joined p.barred q.barred s lt ∙ or_left (has p.barred s) (has q.barred s) there)

  live_right : (p q : Product) → is_live boxes (both p q) ≡ true → is_live boxes q ≡ true
  live_right p q = live_of_more q (both p q)
      (λ s lt there. has-joined p.plain q.plain s lt ∙ or_right (has p.plain s) (has q.plain s) there)
      (λ s lt there. has-joined p.barred q.barred s lt ∙ or_right (has p.barred s) (has q.barred s) there)

-- lists by what is kept of them
module _ (L : Product → Bool) where
  kept_more : (p : Product) (ps qs : List Product) → filter L ps ≡ filter L qs → filter L (p ∷ ps) ≡ filter L (p ∷ qs)
  kept_more p ps qs same = grind (arith, filter-append)

  kept_both : (ps qs rs ts : List Product) → filter L ps ≡ filter L rs → filter L qs ≡ filter L ts
      → filter L (ps ++ qs) ≡ filter L (rs ++ ts)
  kept_both ps qs rs ts first second = filter-append L ps qs ∙ cc (first, second) ∙ sym (filter-append L rs ts)

  kept_again : (ps : List Product) → filter L ps ≡ filter L (filter L ps)
  kept_again [] = refl
  kept_again (p ∷ ps) = grind (arith, kept_again ps)

  kept_appended : (ps qs : List Product) → filter L (ps ++ qs) ≡ filter L (filter L ps ++ filter L qs)
  kept_appended ps qs = kept_both ps qs (filter L ps) (filter L qs) (kept_again ps) (kept_again qs)

  -- where both are kept only of kept ones
  module _ (first : (p q : Product) → L (both p q) ≡ true → L p ≡ true) (second : (p q : Product) → L (both p q)
      ≡ true → L q ≡ true) where
    dropped : (a b : Bool) → (a ≡ true → b ≡ true) → b ≡ false → a ≡ false
    dropped true b keeps none = grind arith
    dropped false b keeps none = refl

    none_with : (p : Product) → L p ≡ false → (qs : List Product) → filter L (map (both p) qs) ≡ []
    none_with p dead [] = refl
    none_with p dead (q ∷ qs) = rw (dropped (L (both p q)) (L p) (first p q) dead) (none_with p dead qs)

    kept_with : (p : Product) (qs : List Product) → filter L (map (both p) qs) ≡ filter L (map (both p) (filter L qs))
    kept_with p [] = refl
    kept_with p (q ∷ qs) = grind (arith, kept_more, dropped, kept_with p qs)

    kept_crossed : (ps qs : List Product) → filter L (crossed ps qs) ≡ filter L (crossed (filter L ps) (filter L qs))
    kept_crossed [] qs = refl
    kept_crossed (p ∷ ps) qs = grind (arith, nat_tests, common_steps, kept_with, none_with, kept_crossed ps qs)

module _ (boxes : ℕ → Option CellBox) where
  of_either : (ps qs : List Product) → filter (is_live boxes) (ps ++ qs) ≡ filter (is_live boxes)
      (filter (is_live boxes) ps ++ filter (is_live boxes) qs)
  of_either = kept_appended (is_live boxes)

  of_both : (ps qs : List Product) → filter (is_live boxes) (crossed ps qs) ≡ filter (is_live boxes)
      (crossed (filter (is_live boxes) ps) (filter (is_live boxes) qs))
  of_both = kept_crossed (is_live boxes) (live_left boxes) (live_right boxes)

  kept_in : (sense : Sense) (x : Forms) → sum_in sense (live boxes x) ≡ filter (is_live boxes) (sum_in sense x)
  kept_in y x = grind arith

  kept_when : (k : Combination) (x y : Forms) → filter (is_live boxes) (sum_when k x y)
      ≡ filter (is_live boxes) (sum_when k (live boxes x) (live boxes y))
  kept_when z x y = grind (arith, kept_in, of_both, of_either, kept_both)

  forms_are : (a b c d : List Product) → a ≡ c → b ≡ d → ◌≡◌ {A = Forms} (record { products = a; complement = b })
      (record { products = c; complement = d })
  forms_are a b c d first second = cc (first, second)

  pub live_sides : (op : Op) (x y : Forms) → live boxes (combined_forms op x y)
      ≡ live boxes (combined_forms op (live boxes x) (live boxes y))
  live_sides op x y =
      forms_are _ _ _ _ (kept_when (combination_of op) x y) (kept_when (complement_of (combination_of op)) x y)

  -- a product that holds at a place in the boxes is live
  module _ (at : ℕ → Cell) (x y z : ℕ) (is : IsPlaceInBoxes boxes at x y z) where
    plain_boxed : (qs : List ℕ) → list_all (λ q. (at q).member) qs ≡ true → list_all (λ q. is_in_box (boxes q) x y z)
        qs ≡ true
    plain_boxed [] e = refl
    plain_boxed (q ∷ qs) e =
        let rest = list_all (λ q. (at q).member) qs
        in rw (is.boxed q (and_left (at q).member rest e), plain_boxed qs (and_right (at q).member rest e)) refl

    live_here : (p : Product) → holds at p ≡ true → is_live boxes p ≡ true
    unfolding is_live
    live_here p e =
        let members = list_all (λ q. (at q).member) (solids p.plain)
        in let others = list_all (λ q. not (at q).member) (solids p.barred)
        in let plain : members ≡ true = and_left members others e
        in let barred : others ≡ true = and_right members others e
        in let apart : is_void p ≡ false =
        no_void p.plain (has p.barred)
        ∙ ap not ((all-each (λ q. not (has p.barred q)) p.plain).1
        (λ q lt there. not_both (at q).member (has p.barred q) ((all-each (λ q. (at q).member) p.plain).0 plain q
        lt there) (λ in_barred. (all-each (λ q. not (at q).member) p.barred).0 barred q lt in_barred)))
        in let some : has_some_cell (box_of_all boxes (solids p.plain)) ≡ true =
        has_the_cell x y z (box_of_all boxes (solids p.plain))
        (in_all x y z boxes (Some everything) (solids p.plain) (in_everything x y z is.column is.row is.depth)
        (plain_boxed (solids p.plain) plain))
        in rw (apart, some) refl

    pub live_places : (ps : List Product) → ShowTheSame at ps (filter (is_live boxes) ps)
    live_places ps = record {
      members = any-filter_same (holds at) (is_live boxes) true live_here ps;
      faces = λ face. any-filter_same (λ p. holds at p && shows at face p) (is_live boxes) true
          (λ p e. live_here p (and_left (holds at p) (shows at face p) e)) ps;
    }

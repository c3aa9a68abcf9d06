-- Where no "^" stands, a wanted list is no longer than the list of the root that is made of it.
use Rattle.px_num.proofs.Basics.{ℕ, ◌≡◌, ◌≤◌, Bool, true, false, List, [], ◌∷◌, ◌++◌, length, length-append, nat_lt}
use Rattle.px_num.proofs.Basics.{refl, arith, Option, None, All, filter, nat_tests, All-nil, All-cons, All-append}
use Rattle.px_num.proofs.Basics.{All-head, All-tail, length-filter, count_by-le-length}
use Rattle.px_normal.proofs.Words.{Both, both_lists, CellBox, Combination, combination_of, complement_of, crossed}
use Rattle.px_normal.proofs.Words.{crowd, Either, EitherWay, first_past_limit, forms, Forms, IsOneWay, join, leaf}
use Rattle.px_normal.proofs.Words.{left_when, MAX_PRODUCTS, of_left, of_right, of_root, one_way, opposite, Product}
use Rattle.px_normal.proofs.Words.{right_when, Sense, sum_in, sum_of_products, sum_when, Tree, Wanted, wanted_forms}
use Rattle.px_normal.proofs.Words.{wanted_in, wanted_lists, where_wanted}
use Rattle.px_normal.specs.CrowdLaw.{HasNoDiffer}
use Rattle.px_normal.proofs.LengthLaws.{at_least, length-crossed}

left_appended : (n : ℕ) (ps qs : List Product) → length (ps ++ qs) ≤ n → length ps ≤ n
left_appended n ps qs few = omega (arith, length-append ps qs)

right_appended : (n : ℕ) (ps qs : List Product) → length (ps ++ qs) ≤ n → length qs ≤ n
right_appended n ps qs few = omega (arith, length-append ps qs)

left_crossed : (n : ℕ) (ps qs : List Product) → 1 ≤ length qs → length (crossed ps qs) ≤ n → length ps ≤ n
left_crossed n ps qs some few =
    omega (arith, length-crossed ps qs, at_least (length ps) (length ps) (length qs) (omega arith) some)

right_crossed : (n : ℕ) (ps qs : List Product) → 1 ≤ length ps → length (crossed ps qs) ≤ n → length qs ≤ n
right_crossed n ps qs some few =
    grind (arith, length-crossed ps qs, at_least (length qs) (length qs) (length ps) (omega arith) some)

some_crossed : (ps qs : List Product) → 1 ≤ length ps → 1 ≤ length qs → 1 ≤ length (crossed ps qs)
some_crossed ps qs p q = omega (arith, length-crossed ps qs, at_least 1 (length ps) (length qs) p q)

some_appended : (ps qs : List Product) → 1 ≤ length ps → 1 ≤ length (ps ++ qs)
some_appended ps qs p = omega (arith, length-append ps qs)

-- no list is empty
record HasSome (x : Forms) : Type 0 where
  products : 1 ≤ length x.products
  complement : 1 ≤ length x.complement

some_in : (sense : Sense) (x : Forms) → HasSome x → 1 ≤ length (sum_in sense x)
some_in y x some = grind arith

some_when : (k : Combination) (x y : Forms) → HasSome x → HasSome y → 1 ≤ length (sum_when k x y)
some_when z x y left right = grind (arith, some_crossed, some_in, some_appended)

some_forms : (tree : Tree) → HasSome (forms tree)
some_forms (leaf solid) = record { products = omega arith; complement = omega arith }
some_forms (join op left right) = grind (arith, some_when, some_forms left, some_forms right)

-- the lists of a node that are wanted are within a limit
record IsWithin (limit : ℕ) (wanted : Wanted) (x : Forms) : Type 0 where
  products : wanted.products ≡ true → length x.products ≤ limit
  complement : wanted.complement ≡ true → length x.complement ≤ limit

-- the lists of a side by those of a node that are made of it in a sense
within_in : (limit : ℕ) (sense : Sense) (wanted : Wanted) (x : Forms)
    → (wanted.products ≡ true → length (sum_in sense x) ≤ limit)
    → (wanted.complement ≡ true → length (sum_in (opposite sense) x) ≤ limit)
    → IsWithin limit (wanted_in sense wanted) x
within_in limit y wanted x own other = grind arith

-- the wanted lists of a combination of two sides are within a limit
record IsWithinBy (limit : ℕ) (wanted : Wanted) (k : Combination) (x y : Forms) : Type 0 where
  own : wanted.products ≡ true → length (sum_when k x y) ≤ limit
  other : wanted.complement ≡ true → length (sum_when (complement_of k) x y) ≤ limit

module _ (limit : ℕ) (x y : Forms) (left : HasSome x) (right : HasSome y) where
  left_within : (k : Combination) (wanted : Wanted) → IsOneWay k → IsWithinBy limit wanted k x y
      → IsWithin limit (left_when k wanted) x
  left_within (Both s t) wanted one is =
      within_in limit s wanted x (λ w. left_crossed limit _ _ (some_in t y right) (is.own w))
      (λ w. left_appended limit _ _ (is.other w))
  left_within (Either s t) wanted one is =
      within_in limit s wanted x (λ w. left_appended limit _ _ (is.own w))
      (λ w. left_crossed limit _ _ (some_in (opposite t) y right) (is.other w))
  left_within (EitherWay s) wanted one is = absurd one

  right_within : (k : Combination) (wanted : Wanted) → IsOneWay k → IsWithinBy limit wanted k x y
      → IsWithin limit (right_when k wanted) y
  right_within (Both s t) wanted one is =
      within_in limit t wanted y (λ w. right_crossed limit _ _ (some_in s x left) (is.own w))
      (λ w. right_appended limit _ _ (is.other w))
  right_within (Either s t) wanted one is =
      within_in limit t wanted y (λ w. right_appended limit _ _ (is.own w))
      (λ w. right_crossed limit _ _ (some_in (opposite s) x left) (is.other w))
  right_within (EitherWay s) wanted one is = absurd one

abbrev IsShort : ℕ → List Product → Type 0
IsShort limit list = length list ≤ limit

kept_within : (limit : ℕ) (wanted : Bool) (test : Product → Bool) (list : List Product)
    → (wanted ≡ true → length list ≤ limit) → IsShort limit (where_wanted wanted (filter test list))
kept_within limit true test list few = omega (arith, length-filter test list, count_by-le-length test list, few refl)
kept_within limit false test list few = omega arith

module _ (boxes : ℕ → Option CellBox) (limit : ℕ) where
  both_short : (ps qs : List Product) → IsShort limit ps → IsShort limit qs → All (IsShort limit) (ps ∷ qs ∷ [])
  both_short ps qs p q =
      All-cons (IsShort limit) ps (qs ∷ []) p (All-cons (IsShort limit) qs [] q (All-nil (IsShort limit)))

  all_within : (wanted : Wanted) (tree : Tree) → HasNoDiffer tree → IsWithin limit wanted (forms tree)
      → All (IsShort limit) (wanted_lists boxes wanted tree)
  all_within wanted (leaf solid) none is = grind (arith, both_short, kept_within)
  all_within wanted (join op left right) none is =
      let x = forms left in let y = forms right
      in let some_x = some_forms left in let some_y = some_forms right
      in let k = combination_of op in let one = one_way op none.0
      in let by : IsWithinBy limit wanted k x y = record { own = is.products; other = is.complement }
      in let l = wanted_lists boxes (of_left op wanted) left in let r = wanted_lists boxes (of_right op wanted) right
      in All-append (IsShort limit) (l ++ r) (both_lists (wanted_forms boxes wanted (forms (join op left right))))
      (All-append (IsShort limit) l r
      (all_within (of_left op wanted) left none.1 (left_within limit x y some_x some_y k wanted one by))
      (all_within (of_right op wanted) right none.2 (right_within limit x y some_x some_y k wanted one by)))
      (grind (arith, both_short, kept_within))

none_past : (lists : List (List Product)) → All (IsShort MAX_PRODUCTS) lists → first_past_limit lists ≡ None
none_past [] all = refl
none_past (list ∷ lists) all = rw (within (length list) (All-head (IsShort MAX_PRODUCTS) list lists all))
    (none_past lists (All-tail (IsShort MAX_PRODUCTS) list lists all)) where
      within : (n : ℕ) → n ≤ MAX_PRODUCTS → nat_lt MAX_PRODUCTS n ≡ false
      within n few = grind (arith, nat_tests)

pub all_shorter : (boxes : ℕ → Option CellBox) (tree : Tree) → HasNoDiffer tree
    → All (λ list. length list ≤ length (sum_of_products tree)) (wanted_lists boxes of_root tree)
all_shorter boxes tree none =
    all_within boxes (length (sum_of_products tree)) of_root tree none (grind arith)

pub never_crowded : (boxes : ℕ → Option CellBox) (tree : Tree) → HasNoDiffer tree → length (sum_of_products tree)
    ≤ MAX_PRODUCTS → crowd boxes tree ≡ None
never_crowded boxes tree none few =
    none_past _ (all_within boxes MAX_PRODUCTS of_root tree none (grind arith))

-- Normal forms say what the expression says.
use Rattle.px_num.proofs.Basics.{ℕ, ◌≡◌, ◌<◌, ◌==◌, ◌||◌, ◌&&◌, not, Bool, true, false, List, [], ◌∷◌, ◌++◌, length}
use Rattle.px_num.proofs.Basics.{refl, sym, ◌∙◌, arith, inl, inr, list_any, All, list_any-append, All-nil, All-cons}
use Rattle.px_num.proofs.Basics.{All-append}
use Rattle.px_normal.proofs.Words.{all-empty, all-joined, all-one, any-empty, any-joined, any-one, barred_one, both}
use Rattle.px_normal.proofs.Words.{Both, Cell, cell, Combination, combination_of, combined_forms, complement_of}
use Rattle.px_normal.proofs.Words.{crossed, Either, EitherWay, empty, forms, Forms, has, has-empty, has-joined}
use Rattle.px_normal.proofs.Words.{has-one, has_face, HasLeavesBelow, HasPlain, HasSolidsBelow, holds, IsBelow}
use Rattle.px_normal.proofs.Words.{IsNormalForm, join, leaf, none_of_none, one, Op, opposite, or_cases, or_true}
use Rattle.px_normal.proofs.Words.{own_faces, plain_one, Product, Sense, sets_joined, shown_in, shown_when, shows}
use Rattle.px_normal.proofs.Words.{solids, SolidSet, sum_in, sum_of_products, sum_when, Tree, truth_in, truth_when}
use Rattle.px_normal.proofs.Words.{where_true}
use Rattle.px_expr.specs.Cells.{combined as cells_combined}
use Rattle.px_expr.proofs.CombinationLaws.{truth_of_complement}
use Rattle.px_expr.specs.declared.node.Sense.TheVariants.{Plain, Complement}
use Rattle.px_normal.proofs.CrossedLemmas.{any_crossed, shown_crossed, each_crossed}

face_append : (n : ℕ) (xs ys : List ℕ) → has_face n (xs ++ ys) ≡ has_face n xs || has_face n ys
face_append n xs ys = list_any-append (λ m. m == n) xs ys

face_where : (n : ℕ) (b : Bool) (xs : List ℕ) → has_face n (where_true b xs) ≡ b && has_face n xs
face_where n true xs = refl
face_where n false xs = refl

face_own : (n : ℕ) (c : Cell) → has_face n (own_faces c) ≡ (c.member && has_face n c.shown)
    || (not c.member && has_face n c.hidden)
face_own n c = grind arith

-- what is said of a side is said of it in either sense
module _ (at : ℕ → Cell) (f : Forms) (c : Cell) (is : IsNormalForm at f c) where
  members_in : (sense : Sense) → list_any (holds at) (sum_in sense f) ≡ truth_in sense c.member
  members_in x = grind arith

  shows_in : (sense : Sense) (n : ℕ) → list_any (λ x. holds at x && shows at n x) (sum_in sense f)
      ≡ truth_in sense c.member && has_face n (shown_in sense c)
  shows_in x n = grind arith

module _ (at : ℕ → Cell) (f g : Forms) (c d : Cell) (p : IsNormalForm at f c) (q : IsNormalForm at g d) where
  -- the products of both, and what they show
  of_both : (ps qs : List Product) → list_any (holds at) (crossed ps qs) ≡ list_any (holds at) ps
      && list_any (holds at) qs
  of_both = any_crossed (holds at) (shows at 0) (grind (arith, all-joined)) (grind (arith, any-joined))

  shown_of_both : (n : ℕ) (ps qs : List Product) → list_any (λ x. holds at x && shows at n x) (crossed ps qs)
      ≡ (list_any (λ x. holds at x && shows at n x) ps && list_any (holds at) qs)
      || (list_any (holds at) ps && list_any (λ x. holds at x && shows at n x) qs)
  shown_of_both n = shown_crossed (holds at) (shows at n) (grind (arith, all-joined)) (grind (arith, any-joined))

  -- the products of a combination hold where it has the cell
  members_when : (k : Combination) → list_any (holds at) (sum_when k f g) ≡ truth_when k c.member d.member
  members_when x = grind (arith, of_both, members_in, list_any-append)

  -- and show the faces that it shows there
  shown_either_way : (s : Sense) (n : ℕ) → list_any (λ x. holds at x && shows at n x) (sum_when (EitherWay s) f g)
      ≡ ((c.member && has_face n c.shown) && truth_in s d.member
      || (c.member && (truth_in s d.member && has_face n (shown_in s d))))
      || ((not c.member && has_face n c.hidden) && truth_in (opposite s) d.member
      || (not c.member && (truth_in (opposite s) d.member && has_face n (shown_in (opposite s) d))))
  shown_either_way s n = grind (arith, list_any-append, shown_of_both, shows_in, members_in)

  shows_when : (k : Combination) (n : ℕ) → list_any (λ x. holds at x && shows at n x) (sum_when k f g)
      ≡ truth_when k c.member d.member && has_face n (shown_when k c d)
  shows_when k n = grind (arith, shown_of_both, list_any-append)

  is_of_combined : (op : Op) → IsNormalForm at (combined_forms op f g) (cells_combined op c d)
  is_of_combined op = grind (arith, truth_of_complement, members_when, shows_when)

pub is_normal_form : (at : ℕ → Cell) (tree : Tree) → HasLeavesBelow 256 tree
    → IsNormalForm at (forms tree) (cell at tree)
is_normal_form at (leaf solid) below = grind (arith, all-one, all-empty, any-one, any-empty)
is_normal_form at (join op left right) below =
    is_of_combined at _ _ _ _ (is_normal_form at left below.0) (is_normal_form at right below.1) op

-- each product has a plain solid
any_some : (xs : List ℕ) → 0 < length xs → list_any (λ _. true) xs ≡ true
any_some [] some = absurd (omega arith)
any_some (x ∷ xs) some = refl

some_any : (xs : List ℕ) → list_any (λ _. true) xs ≡ true → 0 < length xs
some_any [] any = absurd (grind arith)
some_any (x ∷ xs) any = omega arith

plain_both : (p q : Product) → HasPlain p → HasPlain (both p q)
plain_both p q plain = some_any _ (rw (any-joined (λ _. true) p.plain q.plain, any_some (solids p.plain) plain) refl)

anything : (ps : List Product) → All (λ _. Unit {0}) ps
anything ps = λ i any lt. tt

-- what has no cell where neither side has one has a plain solid in each product
plain_when : (k : Combination) (x y : Forms) → truth_when k false false ≡ false → All HasPlain x.products
    → All HasPlain y.products → All HasPlain (sum_when k x y)
plain_when (Both Plain t) x y none left right =
    each_crossed HasPlain (λ _. Unit {0}) HasPlain (λ p q plain _. plain_both p q plain) x.products (sum_in t y) left
    (anything (sum_in t y))
plain_when (Both Complement Plain) x y none left right =
    each_crossed (λ _. Unit {0}) HasPlain HasPlain
    (λ p q _ plain. grind (arith, some_any, any-joined, any_some, or_true)) x.complement y.products
    (anything x.complement) right
plain_when (Both Complement Complement) x y none left right = absurd cc
plain_when (Either Plain Plain) x y none left right = All-append HasPlain x.products y.products left right
plain_when (Either Plain Complement) x y none left right = absurd cc
plain_when (Either Complement t) x y none left right = absurd cc
plain_when (EitherWay Plain) x y none left right = absurd cc
plain_when (EitherWay Complement) x y none left right =
    All-append HasPlain (crossed x.products y.complement) (crossed x.complement y.products)
    (each_crossed HasPlain (λ _. Unit {0}) HasPlain (λ p q plain _. plain_both p q plain) x.products y.complement left
    (anything y.complement))
    (each_crossed (λ _. Unit {0}) HasPlain HasPlain
    (λ p q _ plain. grind (arith, some_any, any-joined, any_some, or_true)) x.complement y.products
    (anything x.complement) right)

pub all_plain : (tree : Tree) → HasLeavesBelow 256 tree → All HasPlain (sum_of_products tree)
all_plain (leaf solid) below =
    All-cons HasPlain (plain_one solid) [] (some_any _ (any-one (λ _. true) solid below)) (All-nil HasPlain)
all_plain (join op left right) below =
    grind (arith, plain_when, none_of_none, all_plain left below.0, all_plain right below.1)

-- each solid of a product is one of the leaves'
below_joined : (count : ℕ) (a b : SolidSet) → IsBelow count a → IsBelow count b → IsBelow count (sets_joined a b)
below_joined count a b first second solid lt in_both =
    elim (or_cases (has a solid) (has b solid) (sym (has-joined a b solid lt) ∙ in_both)) [
      | inl in_first ↦ first solid lt in_first
      | inr in_second ↦ second solid lt in_second
    ]

below_one : (count solid : ℕ) → solid < 256 → solid < count → IsBelow count (one solid)
below_one count solid fits lt other small in_one = grind (arith, has-one)

below_empty : (count : ℕ) → IsBelow count empty
below_empty count solid lt in_empty = grind (arith, has-empty)

below_both : (count : ℕ) (p q : Product) → HasSolidsBelow count p → HasSolidsBelow count q
    → HasSolidsBelow count (both p q)
below_both count p q first second = search (below_joined)

record AllBelow (count : ℕ) (x : Forms) : Type 0 where
  products : All (HasSolidsBelow count) x.products
  complement : All (HasSolidsBelow count) x.complement

module _ (count : ℕ) where
  below_in : (sense : Sense) (x : Forms) → AllBelow count x → All (HasSolidsBelow count) (sum_in sense x)
  below_in Plain x all = all.products
  below_in Complement x all = all.complement

  each_of_both : (ps qs : List Product) → All (HasSolidsBelow count) ps → All (HasSolidsBelow count) qs
      → All (HasSolidsBelow count) (crossed ps qs)
  each_of_both = each_crossed (HasSolidsBelow count) (HasSolidsBelow count) (HasSolidsBelow count) (below_both count)

  below_when : (k : Combination) (x y : Forms) → AllBelow count x → AllBelow count y
      → All (HasSolidsBelow count) (sum_when k x y)
  below_when (Both s t) x y left right = each_of_both _ _ (below_in s x left) (below_in t y right)
  below_when (Either s t) x y left right =
      All-append (HasSolidsBelow count) _ _ (below_in s x left) (below_in t y right)
  below_when (EitherWay s) x y left right =
      All-append (HasSolidsBelow count) _ _ (each_of_both _ _ left.products (below_in s y right))
      (each_of_both _ _ left.complement (below_in (opposite s) y right))

  below_combined : (op : Op) (x y : Forms) → AllBelow count x → AllBelow count y
      → AllBelow count (combined_forms op x y)
  below_combined op x y left right = record {
    products = below_when (combination_of op) x y left right;
    complement = below_when (complement_of (combination_of op)) x y left right;
  }

below_tree : (count : ℕ) (tree : Tree) → HasLeavesBelow 256 tree → HasLeavesBelow count tree
    → AllBelow count (forms tree)
below_tree count (leaf solid) fits below = record {
  products = All-cons (HasSolidsBelow count) (plain_one solid) [] (
    below_one count solid fits below,
    below_empty count,
  ) (All-nil (HasSolidsBelow count));
  complement = All-cons (HasSolidsBelow count) (barred_one solid) [] (
    below_empty count,
    below_one count solid fits below,
  ) (All-nil (HasSolidsBelow count));
}
below_tree count (join op left right) fits below =
    below_combined count op _ _ (below_tree count left fits.0 below.0) (below_tree count right fits.1 below.1)

pub all_below : (count : ℕ) (tree : Tree) → HasLeavesBelow 256 tree → HasLeavesBelow count tree
    → All (HasSolidsBelow count) (sum_of_products tree)
all_below count tree fits below = (below_tree count tree fits below).products

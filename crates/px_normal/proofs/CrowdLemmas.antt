-- What is wanted of a node is made of what is wanted of its sides, and the first list past the limit.
use Rattle.px_num.proofs.Basics.{arith, ℕ, ◌≡◌, ◌||◌, Bool, true, false, List, refl, ap, sym, ◌∙◌, Option}
use Rattle.px_normal.proofs.Words.{CellBox, Combination, combined_forms, complement_of, Forms, left_when, live}
use Rattle.px_normal.proofs.Words.{of_either, of_left, of_right, Op, opposite, or_left, or_right, Product, right_when}
use Rattle.px_normal.proofs.Words.{Sense, sum_in, sum_when, Wanted, wanted_forms, wanted_in, where_wanted}
use Rattle.px_normal.proofs.LiveLemmas.{live_sides}

abbrev blank : Wanted → Forms → Forms
blank wanted x = record {
  products = where_wanted wanted.products x.products;
  complement = where_wanted wanted.complement x.complement;
}

-- of a side in its sense no product is missing where those of the node are wanted
own_in : (sense : Sense) (wanted : Wanted) (x : Forms) → wanted.products ≡ true
    → sum_in sense (blank (wanted_in sense wanted) x) ≡ sum_in sense x
own_in y wanted x e = grind arith

-- and in the other sense none where those of the node's complement are
other_in : (sense : Sense) (wanted : Wanted) (x : Forms) → wanted.complement ≡ true
    → sum_in (opposite sense) (blank (wanted_in sense wanted) x) ≡ sum_in (opposite sense) x
other_in y wanted x e = grind arith

-- where either is wanted, all of the sides is there
either_is : (wanted : Wanted) (x : Forms) → wanted.products || wanted.complement ≡ true → blank (of_either wanted) x ≡ x
either_is wanted x e = rw e refl

same_sides : (k : Combination) (x y more others : Forms) → x ≡ more → y ≡ others → sum_when k x y
    ≡ sum_when k more others
same_sides k x y more others first second = rw (first, second) refl

products_kept : (k : Combination) (wanted : Wanted) (x y : Forms) → wanted.products ≡ true
    → sum_when k (blank (left_when k wanted) x) (blank (right_when k wanted) y) ≡ sum_when k x y
products_kept z wanted x y e = grind (arith, own_in, or_left, same_sides, either_is)

complement_kept : (k : Combination) (wanted : Wanted) (x y : Forms) → wanted.complement ≡ true
    → sum_when (complement_of k) (blank (left_when k wanted) x) (blank (right_when k wanted) y)
    ≡ sum_when (complement_of k) x y
complement_kept z wanted x y e = grind (arith, other_in, or_right, same_sides, either_is)

where_same : (wanted : Bool) (ps qs : List Product) → (wanted ≡ true → ps ≡ qs)
    → where_wanted wanted ps ≡ where_wanted wanted qs
where_same true ps qs same = same refl
where_same false ps qs same = refl

forms_are : (a b c d : List Product) → a ≡ c → b ≡ d → ◌≡◌ {A = Forms} (record { products = a; complement = b })
    (record { products = c; complement = d })
forms_are a b c d first second = cc (first, second)

module _ (boxes : ℕ → Option CellBox) where
  -- a list that is not wanted is in no list that is
  blank_sides : (op : Op) (wanted : Wanted) (x y : Forms)
      → blank wanted (live boxes (combined_forms op (blank (of_left op wanted) x) (blank (of_right op wanted) y)))
      ≡ blank wanted (live boxes (combined_forms op x y))
  blank_sides op wanted x y = grind (arith, forms_are, where_same, products_kept, complement_kept)

  pub wanted_sides : (op : Op) (wanted : Wanted) (x y : Forms)
      → wanted_forms boxes wanted (combined_forms op (wanted_forms boxes (of_left op wanted) x)
      (wanted_forms boxes (of_right op wanted) y)) ≡ wanted_forms boxes wanted (combined_forms op x y)
  wanted_sides op wanted x y =
      blank_sides op wanted (live boxes x) (live boxes y) ∙ ap (blank wanted) (sym (live_sides boxes op x y))

-- Laws of combinations: which cells the complement of one has, and that what begins shows a face.
use Rattle.px_num.proofs.Basics.{ℕ, ◌≡◌, ◌<◌, ◌&&◌, ◌||◌, ◌++◌, Bool, true, false, not, List, length, arith}
use Rattle.px_num.proofs.Basics.{length-append}
use Rattle.px_expr.proofs.Words.{Cell, Combination, complement_of, HasSurface, opposite}
use Rattle.px_expr.proofs.Words.{shown_in, shown_when, truth_in, truth_when, where_true}
use Rattle.px_num.proofs.TruthLaws.{not_false, not_true}
use Rattle.px_expr.specs.declared.node.Sense.{Sense}

pub truth_in_opposite : (sense : Sense) (side : Bool) → truth_in (opposite sense) side ≡ not (truth_in sense side)
truth_in_opposite sense side = grind arith

-- the complement has the cells that the combination lacks
pub truth_of_complement : (c : Combination) (left right : Bool) → truth_when (complement_of c) left right
    ≡ not (truth_when c left right)
truth_of_complement c left right = grind (arith, truth_in_opposite)

-- a side that begins in its sense shows a face in it
side_begins : (sense : Sense) (a c : Cell) → HasSurface a c → truth_in sense a.member ≡ false
    → truth_in sense c.member ≡ true → 0 < length (shown_in sense c)
side_begins sense a c is before now = grind (arith, not_false, not_true)

-- tests of two sides before and now, and what each shows where its own begins
module _ (p q now_p now_q : Bool) (xs ys : List ℕ) (first : p ≡ false → now_p ≡ true → 0 < length xs)
    (second : q ≡ false → now_q ≡ true → 0 < length ys) where
  both_begin : p && q ≡ false → now_p && now_q ≡ true → 0 < length (xs ++ ys)
  both_begin before now = grind (arith, length-append {A = ℕ})

  either_begins : p || q ≡ false → now_p || now_q ≡ true → 0 < length (where_true now_p xs ++ where_true now_q ys)
  either_begins before now = grind (arith, length-append {A = ℕ})

-- where a combination begins, it shows a face
pub combination_begins : (k : Combination) (a b c d : Cell) → HasSurface a c → HasSurface b d
    → truth_when k a.member b.member ≡ false → truth_when k c.member d.member ≡ true → 0 < length (shown_when k c d)
combination_begins k a b c d left right before now =
    grind (arith, both_begin, side_begins, either_begins, length-append)

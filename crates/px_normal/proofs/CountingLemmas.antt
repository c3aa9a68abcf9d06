-- Counts are the lengths of normal forms.
use Rattle.std.proofs.Common.{ℕ, suc, zero, ◌≡◌, ◌≤◌, ◌+◌, ◌*◌, ◌^◌, min, List, ◌++◌, length, refl, ap, sym, ◌∙◌}
use Rattle.std.proofs.Common.{arith, inl, inr, length-append, lit≤}
use Rattle.std.proofs.Math.Nat.{mul_comm}
use Rattle.std.proofs.lemmas.Bool.{cases_lt}
use Rattle.px_expr.specs.Tree.{Tree, join}
use Rattle.px_expr.specs.declared.node.Op.{Op}
use Rattle.px_expr.specs.Cells.{combination_of, complement_of}
use Rattle.px_expr.specs.declared.node.Sense.{Sense}
use Rattle.px_expr.specs.declared.node.Sense.TheVariants.{Plain, Complement}
use Rattle.px_expr.specs.declared.node.Combination.{Combination}
use Rattle.px_normal.specs.declared.product.Product.{Product}
use Rattle.px_normal.specs.Forms.{forms, crossed, sum_in, sum_when}
use Rattle.px_normal.proofs.LengthLaws.{at_least, length-crossed}
use Rattle.px_normal.specs.Counting.{capped}
use Rattle.px_normal.specs.FormCounts.{counts_of, combined_counts, counted_in, count_when}
use Rattle.px_normal.specs.declared.count.Counts.{Counts}

past_both : (k a b : ℕ) → 1 ≤ k → k ≤ a * b → k ≤ min a k * min b k → min (min a k * min b k) k ≡ min (a * b) k
past_both k a b one x y = omega arith

-- a product of numbers up to a limit, up to that limit
min_product : (k a b : ℕ) → 1 ≤ k → min (min a k * min b k) k ≡ min (a * b) k
min_product k zero b one = grind arith
min_product k (suc a) zero one = grind arith
min_product k (suc a) (suc b) one = elim (cases_lt (suc a) k) [
  | inl p ↦ elim (cases_lt (suc b) k) [
    | inl q ↦ let e : min (suc a) k ≡ suc a = omega arith in let f : min (suc b) k ≡ suc b = omega arith in
        rw (e, f) refl
    | inr q ↦ past_both k (suc a) (suc b) one (omega (
      arith,
      at_least k (suc b) (suc a) q (omega arith),
      mul_comm (suc a) (suc b),
    ))
        (let e : min (suc b) k ≡ k = omega arith in
        rw e (omega (arith, at_least k k (min (suc a) k) (omega arith) (omega arith), mul_comm k (min (suc a) k))))
  ]
  | inr p ↦ past_both k (suc a) (suc b) one (at_least k (suc a) (suc b) p (omega arith))
      (at_least k (min (suc a) k) (min (suc b) k) (omega arith) (omega arith))
]

capped_sum : (a b : ℕ) → capped (capped a + capped b) ≡ capped (a + b)
capped_sum a b = omega arith

capped_append : (ps qs : List Product) → capped (length (ps ++ qs)) ≡ capped (capped (length ps) + capped (length qs))
capped_append ps qs = ap capped (length-append ps qs) ∙ sym (capped_sum (length ps) (length qs))

capped_crossed : (ps qs : List Product) → capped (length (crossed ps qs))
    ≡ capped (capped (length ps) * capped (length qs))
capped_crossed ps qs = ap capped (length-crossed ps qs) ∙ sym (min_product (2 ^ 32) (length ps) (length qs) (lit≤ tt))

count_in_is : (sense : Sense) (tree : Tree) → counted_in sense (counts_of tree)
    ≡ capped (length (sum_in sense (forms tree)))
count_in_is Plain tree = refl
count_in_is Complement tree = refl

counts_when : (k : Combination) (left right : Tree) → capped (length (sum_when k (forms left) (forms right)))
    ≡ count_when k (counts_of left) (counts_of right)
counts_when k left right = grind (arith, capped_crossed, capped_append)

counts_are : (a b c d : ℕ) → a ≡ c → b ≡ d → ◌≡◌ {A = Counts} (record { products = a; complement = b })
    (record { products = c; complement = d })
counts_are a b c d first second = cc (first, second)

pub counts_join : (op : Op) (left right : Tree) → counts_of (join op left right) ≡ combined_counts op (counts_of left)
    (counts_of right)
counts_join op left right = counts_are _ _ _ _ (counts_when (combination_of op) left right)
    (counts_when (complement_of (combination_of op)) left right)

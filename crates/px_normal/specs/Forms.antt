-- The sum of products of an expression, and that of its complement. Clauses of public calls stand on it.
use Rattle.std.specs.Prelude.{ℕ, ◌<◌, List, [], ◌∷◌, ◌++◌, map, length, flat_map}
use Rattle.px_expr.specs.Tree.{Tree, leaf, join}
use Rattle.px_expr.specs.declared.node.Op.{Op}
use Rattle.px_expr.specs.Cells.{combination_of, complement_of, opposite}
use Rattle.px_expr.specs.declared.node.Sense.{Sense}
use Rattle.px_expr.specs.declared.node.Sense.TheVariants.{Plain, Complement}
use Rattle.px_expr.specs.declared.node.Combination.{Combination}
use Rattle.px_expr.specs.declared.node.Combination.TheVariants.{Both, Either, EitherWay}
use Rattle.px_normal.specs.declared.product.Product.{Product}
use Rattle.px_normal.specs.Sets.{empty, one, sets_joined, solids, IsBelow}

-- the cells inside one solid
abbrev pub plain_one : ℕ → Product
plain_one solid = record { plain = one solid; barred = empty }

-- the cells outside of one solid
abbrev pub barred_one : ℕ → Product
barred_one solid = record { plain = empty; barred = one solid }

-- both products at once
abbrev pub both : Product → Product → Product
both p q = record { plain = sets_joined p.plain q.plain; barred = sets_joined p.barred q.barred }

-- each of the first with each of the second
abbrev pub crossed : List Product → List Product → List Product
crossed ps qs = flat_map (λ p. map (both p) qs) ps

-- an expression and its complement as lists of products
pub record Forms : Type 0 where
  pub products : List Product
  pub complement : List Product

-- the products of a side in its sense: its own, or its complement's
abbrev pub sum_in : Sense → Forms → List Product
sum_in Plain side = side.products
sum_in Complement side = side.complement

-- where both sides are needed, each product of the one with each of the other; of either, those
-- of the one and then those of the other; either way, the left side's with those of the right one
-- in its sense, and then those of the left side's complement with the right one's others
abbrev pub sum_when : Combination → Forms → Forms → List Product
sum_when (Both first second) x y = crossed (sum_in first x) (sum_in second y)
sum_when (Either first second) x y = sum_in first x ++ sum_in second y
sum_when (EitherWay sense) x y =
    crossed x.products (sum_in sense y) ++ crossed x.complement (sum_in (opposite sense) y)

-- the lists of two sides under an operator
abbrev pub combined_forms : Op → Forms → Forms → Forms
combined_forms op x y = record {
  products = sum_when (combination_of op) x y;
  complement = sum_when (complement_of (combination_of op)) x y;
}

-- the lists of an expression: a solid is inside of itself, and its complement outside of it
abbrev pub forms : Tree → Forms
forms (leaf solid) = record {
  products = plain_one solid ∷ [];
  complement = barred_one solid ∷ [];
}
forms (join op left right) = combined_forms op (forms left) (forms right)

abbrev pub sum_of_products : Tree → List Product
sum_of_products tree = (forms tree).products

abbrev pub HasPlain : Product → Type 0
HasPlain product = 0 < length (solids product.plain)

-- each solid of a product is one of so many
abbrev pub HasSolidsBelow : ℕ → Product → Type 0
HasSolidsBelow count product = IsBelow count product.plain × IsBelow count product.barred

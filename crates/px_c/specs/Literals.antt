-- Products as lists of numbers: a number for each solid, counted from 1, below 0 where the solid is barred, and
-- a 0 behind each product.
-- Clauses of public calls stand on it.
use Rattle.std.specs.Prelude.{ℕ, ℤ, ◌+◌, pos, neg_ℤ, List, [], ◌∷◌, ◌++◌, map}
use Rattle.std.specs.List.{flat_map}
use Rattle.px_normal.specs.declared.product.Product.{Product}
use Rattle.px_normal.specs.Sets.{solids}

-- a solid that cells are to lie inside
abbrev pub plain_literal : ℕ → ℤ
plain_literal solid = pos (solid + 1)

-- a solid that they are to lie outside
abbrev pub barred_literal : ℕ → ℤ
barred_literal solid = neg_ℤ (pos (solid + 1))

-- the literals of a product, and the 0 behind them
abbrev pub literal_numbers : Product → List ℤ
literal_numbers product =
    map plain_literal (solids product.plain) ++ map barred_literal (solids product.barred) ++ pos 0 ∷ []

abbrev pub all_literals : List Product → List ℤ
all_literals products = flat_map literal_numbers products

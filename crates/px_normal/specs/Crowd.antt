-- The lists that are wanted for the live products of an expression, and the first past the limit. Clauses of
-- public calls stand on it.
use Rattle.std.specs.Prelude.{ℕ, ◌||◌, Bool, true, false, List, [], ◌∷◌, ◌++◌, length, Option, Some, None}
use Rattle.std.specs.Prelude.{nat_lt, if◌then◌else◌}
use Rattle.px_expr.specs.Tree.{Tree, leaf, join}
use Rattle.px_expr.specs.declared.node.Op.{Op}
use Rattle.px_expr.specs.Cells.{combination_of}
use Rattle.px_expr.specs.declared.node.Sense.{Sense}
use Rattle.px_expr.specs.declared.node.Sense.TheVariants.{Plain, Complement}
use Rattle.px_expr.specs.declared.node.Combination.{Combination}
use Rattle.px_expr.specs.declared.node.Combination.TheVariants.{Both, Either, EitherWay}
use Rattle.px_normal.specs.declared.cell_box.CellBox.{CellBox}
use Rattle.px_normal.specs.declared.product.Product.{Product}
use Rattle.px_normal.specs.declared.step.Wanted.{Wanted}
use Rattle.px_normal.specs.declared.product.TheConstants.{MAX_PRODUCTS}
use Rattle.px_normal.specs.Forms.{Forms, forms}
use Rattle.px_normal.specs.Live.{live}

-- of the whole expression its products are wanted
abbrev pub of_root : Wanted
of_root = record { products = true; complement = false }

-- both lists, where one of a node is wanted
abbrev pub of_either : Wanted → Wanted
of_either wanted = record {
  products = wanted.products || wanted.complement;
  complement = wanted.products || wanted.complement;
}

-- of a side that is taken by its complement the two lists change over
abbrev pub wanted_in : Sense → Wanted → Wanted
wanted_in Plain wanted = wanted
wanted_in Complement wanted = record { products = wanted.complement; complement = wanted.products }

-- the lists of a left side that a node's lists are made of
abbrev pub left_when : Combination → Wanted → Wanted
left_when (Both first second) wanted = wanted_in first wanted
left_when (Either first second) wanted = wanted_in first wanted
left_when (EitherWay sense) wanted = of_either wanted

-- those of a right side
abbrev pub right_when : Combination → Wanted → Wanted
right_when (Both first second) wanted = wanted_in second wanted
right_when (Either first second) wanted = wanted_in second wanted
right_when (EitherWay sense) wanted = of_either wanted

-- the lists that an operator needs of its left side
abbrev pub of_left : Op → Wanted → Wanted
of_left op wanted = left_when (combination_of op) wanted

-- and those of its right side
abbrev pub of_right : Op → Wanted → Wanted
of_right op wanted = right_when (combination_of op) wanted

-- the list, where it is wanted
abbrev pub where_wanted : Bool → List Product → List Product
where_wanted wanted list = if wanted then list else []

-- the live lists that are wanted of a node; what is not wanted is left empty
abbrev pub wanted_forms : (ℕ → Option CellBox) → Wanted → Forms → Forms
wanted_forms boxes wanted forms = record {
  products = where_wanted wanted.products (live boxes forms).products;
  complement = where_wanted wanted.complement (live boxes forms).complement;
}

-- the products of a node, and then those of its complement
abbrev pub both_lists : Forms → List (List Product)
both_lists forms = forms.products ∷ forms.complement ∷ []

-- the wanted lists of a tree's nodes in postorder, of each node its products first
abbrev pub wanted_lists : (ℕ → Option CellBox) → Wanted → Tree → List (List Product)
wanted_lists boxes wanted (leaf solid) = both_lists (wanted_forms boxes wanted (forms (leaf solid)))
wanted_lists boxes wanted (join op left right) =
    (wanted_lists boxes (of_left op wanted) left ++ wanted_lists boxes (of_right op wanted) right)
    ++ both_lists (wanted_forms boxes wanted (forms (join op left right)))

-- the length of the first list of too many products
abbrev pub first_past_limit : List (List Product) → Option ℕ
first_past_limit [] = None
first_past_limit (list ∷ lists) =
    if nat_lt MAX_PRODUCTS (length list) then Some (length list) else first_past_limit lists

-- the length of the first wanted list past the limit, where there is one
abbrev pub crowd : (ℕ → Option CellBox) → Tree → Option ℕ
crowd boxes tree = first_past_limit (wanted_lists boxes of_root tree)

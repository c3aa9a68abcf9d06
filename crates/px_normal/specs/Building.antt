-- Steps that build the live lists of an expression. Only proofs and private functions stand on it.
use Rattle.std.specs.Prelude.{ℕ, ◌≤◌, List, [], ◌∷◌, ◌++◌, Option}
use Rattle.px_expr.specs.Tree.{Tree, leaf, join}
use Rattle.px_expr.specs.Shapes.{node_shape, joined}
use Rattle.px_expr.specs.declared.node.Node.{Node}
use Rattle.px_expr.specs.declared.node.Shape.{Shape}
use Rattle.px_expr.specs.declared.node.Shape.TheVariants as p
use Rattle.px_normal.specs.declared.cell_box.CellBox.{CellBox}
use Rattle.px_normal.specs.declared.product.Product.{Product}
use Rattle.px_normal.specs.declared.step.Step.{Step}
use Rattle.px_normal.specs.declared.step.Step.TheVariants as s
use Rattle.px_normal.specs.declared.step.Wanted.{Wanted}
use Rattle.px_normal.specs.Forms.{Forms, forms, combined_forms}
use Rattle.px_normal.specs.Crowd.{of_left, of_right, wanted_forms, both_lists}

abbrev pub steps_of : Wanted → Tree → List Step
steps_of wanted (leaf solid) = s.Leaf solid wanted ∷ []
steps_of wanted (join op left right) =
    (steps_of (of_left op wanted) left ++ steps_of (of_right op wanted) right)
    ++ s.Join op wanted ∷ []

abbrev pub shape_step : Shape → Wanted → Step
shape_step (p.Leaf solid) wanted = s.Leaf solid wanted
shape_step (p.Join op left right) wanted = s.Join op wanted

-- what is wanted of a shape's sides, the right one first
abbrev pub sides_wanted : Shape → Wanted → List Wanted
sides_wanted (p.Leaf solid) wanted = []
sides_wanted (p.Join op left right) wanted = of_right op wanted ∷ of_left op wanted ∷ []

-- the steps of nodes that are read from the root, by what is wanted of them, before known steps
abbrev pub walked : List Node → List Wanted → List Step → List Step
walked [] wanted known = known
walked (node ∷ nodes) [] known = known
walked (node ∷ nodes) (first ∷ wanted) known =
    walked nodes (sides_wanted (node_shape node) first ++ wanted)
    (shape_step (node_shape node) first ∷ known)

-- the lists that wait after a step, the newest first
abbrev pub built : (ℕ → Option CellBox) → List Forms → Step → List Forms
built boxes lists (s.Leaf solid wanted) = wanted_forms boxes wanted (forms (leaf solid)) ∷ lists
built boxes lists (s.Join op wanted) =
    joined (λ op x y. wanted_forms boxes wanted (combined_forms op x y)) op lists

-- a step finds two sides, where it joins two
abbrev pub CanBuild : ℕ → Step → Type 0
CanBuild waiting (s.Leaf solid wanted) = Unit {0}
CanBuild waiting (s.Join op wanted) = 2 ≤ waiting

-- the two lists of the newest
abbrev pub newest_lists : List Forms → List (List Product)
newest_lists [] = []
newest_lists (forms ∷ others) = both_lists forms

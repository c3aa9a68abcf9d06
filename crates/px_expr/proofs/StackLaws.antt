-- Laws for every loop over nodes that keeps a value of each tree that waits.
use Rattle.px_num.proofs.Basics.{arith, ap, sym, ◌∙◌, ℕ, ◌≡◌, ◌+◌, ◌<◌, ◌≤◌, List, [], ◌∷◌, ◌++◌, Option, Some, map}
use Rattle.px_num.proofs.Basics.{take, length, reverse, slice_index_or, take_all, length-reverse, length-map}
use Rattle.px_num.proofs.Basics.{reverse-append, fold_more}
use Rattle.px_expr.proofs.Words.{join, joined, leaf, Node, node_shape, Op, put, Tree, trees_after}
use Rattle.std.specs.Option.{option_to_list}
use Rattle.px_expr.specs.declared.node.Shape.{Shape}
use Rattle.px_expr.specs.declared.node.Shape.TheVariants as p

-- a value of a tree that is made of its sides' values is kept for the trees that wait
module _ {X : Type 0} (value : Tree → X) (at : ℕ → X) (made : Op → X → X → X)
    (leaves : (solid : ℕ) → value (leaf solid) ≡ at solid)
    (joins : (op : Op) (left right : Tree) →
    value (join op left right) ≡ made op (value left) (value right)) where
  value_joined : (op : Op) (trees : List Tree) → map value (joined join op trees) ≡ joined made op (map value trees)
  value_joined op trees = grind arith

  pub value_put : (trees : List Tree) (shape : Shape) →
      map value (put leaf join trees shape) ≡ put at made (map value trees) shape
  value_put trees shape = grind (arith, value_joined)

  pub values_more : (nodes : List Node) (i : ℕ) (any : Node) (old new : List X) → i < length nodes
      → old ≡ map value (trees_after (take i nodes)) → new ≡ put at made old (node_shape (slice_index_or nodes i any))
      → new ≡ map value (trees_after (take (i + 1) nodes))
  values_more nodes i any old new lt before now = grind (arith, value_put, fold_more)

-- behind the last node, the value of the whole tree is left
pub values_last : {X : Type 0} (value : Tree → X) (nodes : List Node) (i : ℕ) (tree : Tree) (values : List X)
    → length nodes ≤ i → trees_after nodes ≡ tree ∷ [] → values ≡ map value (trees_after (take i nodes))
    → values ≡ value tree ∷ []
values_last value nodes i tree values past whole now = grind (arith, take_all)

-- a stack that keeps the values, the newest last, has as many as trees wait
pub values_length : {X : Type 0} (value : Tree → X) (stack : List X) (trees : List Tree)
    → reverse stack ≡ map value trees → length stack ≡ length trees
values_length value stack trees is = sym (length-reverse stack) ∙ ap length is ∙ length-map trees value

-- the one value of a stack is what is popped
pub value_popped : {X : Type 0} (stack rest : List X) (value last : X) (popped : Option X) → reverse stack ≡ value ∷ []
    → stack ≡ rest ++ option_to_list popped → popped ≡ Some last → last ≡ value
value_popped stack rest value last popped one items is = grind (arith, reverse-append)

-- What is shown of each operator in its turn: its node is seen as it, and it has no cell where neither side has one.
use Rattle.px_num.proofs.Basics.{ℕ, ◌≡◌, ◌≢◌, ⊤, false, arith}
use Rattle.px_expr.proofs.Words.{Both, Combination, combination_of, Either, EitherWay, node_shape, Op, op_node}
use Rattle.px_expr.proofs.Words.{truth_of}
use Rattle.px_expr.specs.declared.node.Op.TheVariants as o
use Rattle.px_expr.specs.declared.node.Shape.TheVariants as p

-- the node that joins two places is seen as its operator between them
pub shape_of_op : (op : Op) (left right : ℕ) → node_shape (op_node op left right) ≡ p.Join op left right
shape_of_op other left right = grind arith

pub none_of_none : (op : Op) → truth_of op false false ≡ false
none_of_none other = grind arith

-- each side is taken in one sense
abbrev pub IsOneWay : Combination → Type 0
IsOneWay (Both first second) = ⊤
IsOneWay (Either first second) = ⊤
IsOneWay (EitherWay sense) = ⊥

-- only a symmetric difference takes its sides in both senses
pub one_way : (op : Op) → op ≢ o.Differ → IsOneWay (combination_of op)
one_way rest other = grind arith

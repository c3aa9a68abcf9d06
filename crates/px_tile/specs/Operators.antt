-- Which operators are in an expression. Only proofs and private functions stand on it.
use Rattle.std.specs.Prelude.{Bool, true, false}
use Rattle.px_expr.specs.declared.node.Node.{Node}
use Rattle.px_expr.specs.declared.node.Node.TheVariants as n

-- the node is not the operator "^"
abbrev pub is_no_differ : Node → Bool
is_no_differ (n.Differ left right) = false
is_no_differ other = true

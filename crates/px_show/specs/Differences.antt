-- Nodes that are a `^`, by their shapes. Only proofs and private functions stand on it.
use Rattle.std.specs.Prelude.{Bool, false}
use Rattle.px_expr.specs.declared.node.Node.{Node}
use Rattle.px_expr.specs.declared.node.Shape.{Shape}
use Rattle.px_expr.specs.declared.node.Shape.TheVariants as h
use Rattle.px_expr.specs.Shapes.{node_shape}
use Rattle.px_show.specs.Versions.{is_differ}

abbrev pub has_differ_sign : Shape → Bool
has_differ_sign (h.Leaf place) = false
has_differ_sign (h.Join op left right) = is_differ op

-- a node that is a `^`
abbrev pub is_difference : Node → Bool
is_difference node = has_differ_sign (node_shape node)

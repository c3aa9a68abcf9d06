-- The words of definitions, and the laws of crates below, that proofs here cite.
pub use Rattle.px_expr.specs.Postorder.{nodes_behind, nodes_of, placed, size, trees_after}
pub use Rattle.px_expr.specs.Shapes.{CanPlace, IsLeafBelow, joined, node_shape, put}
pub use Rattle.px_expr.specs.Tree.{HasLeavesBelow, IsLawfulTree, leaf_count, nesting, Tree}
pub use Rattle.px_expr.specs.declared.node.Op.{Op}
pub use Rattle.px_model.specs.Scenes.{names_of}
pub use Rattle.px_show.specs.Expressions.{are_known, bracket_closed, cause_in, closes, counts_past, expression_of}
pub use Rattle.px_show.specs.Expressions.{has_names, has_signs, is_among, IsExpressionOf, leaves, limit_in, mark, name}
pub use Rattle.px_show.specs.Expressions.{Named, named_nesting, opens, other, over_places, Part, parts_of, place_of}
pub use Rattle.px_show.specs.Expressions.{show_cause, show_fault, show_tree, side, sign, token, Token, tokens_in}
pub use Rattle.px_show.specs.Expressions.{tokens_of, whole, with_name_byte, with_token, written}
pub use Rattle.px_show.specs.Judged.{at_line, fault_at, first_bad, judged, refused}
pub use Rattle.px_show.specs.Printed.{AreDistinctNames, named_by, printed}
pub use Rattle.px_show.specs.Stacks.{all_steps, AreKept, bracketed, closing, is_leaf, is_unknown, IsStackOf}
pub use Rattle.px_show.specs.Stacks.{nesting_of, stack_part, token_of, tree_steps, trees_built}
pub use Rattle.px_show.specs.declared.fault.LineFault.{LineFault}
pub use Rattle.px_show.specs.declared.scene_version.Version.{Version}
pub use Rattle.px_show.specs.declared.stack.Step.{Step}
pub use Rattle.px_text.proofs.LineLaws.{words_among, words_here}
pub use Rattle.px_text.proofs.PlainLaws.{before_none, both, is_no_comment, name_bytes, plain_byte}
pub use Rattle.px_text.specs.LentWords.{now_of}
pub use Rattle.px_text.specs.Text.{is_blank, is_name, is_name_byte, is_some_byte, Words, words_of}
pub use Rattle.std.proofs.lemmas.List.{length-drop, replicate-append-replicate}

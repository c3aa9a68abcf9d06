-- The words of definitions, and the laws of crates below, that proofs here cite.
pub use Rattle.px_num.proofs.TruthLaws.{and_false, and_true, double_pow, power_grows}
pub use Rattle.px_num.specs.Bits.{nat_bit}
pub use Rattle.px_plane_tree.specs.Heap.{AreStill, HasLines, IsAtRest, IsFed, IsFedFirst, IsFedHeap, IsFedTwo}
pub use Rattle.px_plane_tree.specs.Heap.{IsFedWord, IsHeap, IsSameBut, level_line, line_at, line_bit, next_row}
pub use Rattle.px_plane_tree.specs.Heap.{node_of, parent_bit, rows}
pub use Rattle.px_plane_tree.specs.Lanes.{HasBytes, IsDoubled, IsNext, IsOdd, IsPart, IsTwice}
pub use Rattle.px_plane_tree.specs.Trees.{AreSmallLevels, heights, IsTree, seen_tree}
pub use Rattle.px_rows.proofs.BitLaws.{and_at, or_at, xor_at, bit_down, bit_of_low, bit_of_zero, odd_bits}
pub use Rattle.px_rows.specs.Rows.{row_bit}
pub use Rattle.px_tree.specs.Nodes.{after_feed, cleared, IsGrid, next_at, next_node, node_at, zero_node}
pub use Rattle.px_tree.specs.declared.lines.Lines.{Lines}
pub use Rattle.px_tree.specs.declared.node.Node.{Node}
pub use Rattle.std.proofs.lemmas.Bool.{agree_below, eqb-true, ltb-true, ne_eqb}

use Rattle.px_state.proofs.Cited.{after_feed, get_or, HoldsNodes, IsNodeWord, IsShapeOf, KeepsOutside, nodes_at}
use Rattle.px_state.proofs.Cited.{nodes_end, TreeState, ℕ, ◌+◌, ◌<◌, ◌≡◌, ◌≤◌}
use Rattle.px_state.proofs.nodes.feed_nodes.Given as goal

abbrev pub invariant-loop-w : goal.invariant-loop-w
invariant-loop-w l = record {
  output : (tree : TreeState) → IsShapeOf l.shape tree → HoldsNodes l.shape tree l.fn.words → (k : ℕ) → l.w ≤ k
      → k < l.shape.nodes
      → IsNodeWord (λ n. n.output) (after_feed l.lines.a l.lines.b l.lines.c tree) k
      (get_or l.words (nodes_at l.shape + k) 0);
  carry : (tree : TreeState) → IsShapeOf l.shape tree → HoldsNodes l.shape tree l.fn.words → (k : ℕ) → l.w ≤ k
      → k < l.shape.nodes
      → IsNodeWord (λ n. n.carry) (after_feed l.lines.a l.lines.b l.lines.c tree) k
      (get_or l.words (nodes_at l.shape + l.shape.nodes + k) 0);
  outputs : (k : ℕ) → k < l.w → get_or l.words (nodes_at l.shape + k) 0 ≡ get_or l.fn.words (nodes_at l.shape + k) 0;
  carries : (k : ℕ) → k < l.w → get_or l.words (nodes_at l.shape + l.shape.nodes + k) 0
      ≡ get_or l.fn.words (nodes_at l.shape + l.shape.nodes + k) 0;
  kept : KeepsOutside (nodes_at l.shape) (nodes_end l.shape) l.fn.words l.words;
}

use Rattle.px_state.proofs.Cited.{get_or, IsLatch, IsNodeWord, IsShapeOf, KeepsOutside, nodes_at, nodes_end}
use Rattle.px_state.proofs.Cited.{TreeState, ℕ, ◌+◌, ◌<◌}
use Rattle.px_state.proofs.nodes.write_nodes.Given as goal

abbrev pub invariant-loop-w : goal.invariant-loop-w
invariant-loop-w l = record {
  output : (tree : TreeState) → IsShapeOf l.shape tree → IsLatch tree (λ n. n.output) l.outputs → (k : ℕ) → k < l.w
      → IsNodeWord (λ n. n.output) tree k (get_or l.words (nodes_at l.shape + k) 0);
  carry : (tree : TreeState) → IsShapeOf l.shape tree → IsLatch tree (λ n. n.carry) l.carries → (k : ℕ) → k < l.w
      → IsNodeWord (λ n. n.carry) tree k (get_or l.words (nodes_at l.shape + l.shape.nodes + k) 0);
  kept : KeepsOutside (nodes_at l.shape) (nodes_end l.shape) l.fn.words l.words;
}

use Rattle.px_state.proofs.Cited.{get_or, KeepsOutside, nodes_at, nodes_end, ℕ, ◌+◌, ◌<◌, ◌≡◌}
use Rattle.px_state.proofs.nodes.clear_nodes.Given as goal

abbrev pub invariant-loop-k : goal.invariant-loop-k
invariant-loop-k l = record {
  done : (k : ℕ) → k < l.k → get_or l.words (nodes_at l.shape + k) 0 ≡ 0;
  kept : KeepsOutside (nodes_at l.shape) (nodes_end l.shape) l.fn.words l.words;
}

use Rattle.px_state.proofs.Cited.{get_or, IsActed, KeepsOutside, leaves_at, ℕ, ◌*◌, ◌+◌, ◌<◌, ◌≡◌, ◌≤◌}
use Rattle.px_state.proofs.acting.act_all.Given as goal

abbrev pub invariant-loop-k : goal.invariant-loop-k
invariant-loop-k l = record {
  done : (k : ℕ) → k < l.k → IsActed l.shape l.act k l.fn.words l.words;
  rest : (b k : ℕ) → l.k ≤ k → k < l.shape.plane
      → get_or l.words (b * l.shape.plane + k) 0 ≡ get_or l.fn.words (b * l.shape.plane + k) 0;
  kept : KeepsOutside 0 (leaves_at l.shape) l.fn.words l.words;
}

use Rattle.px_num.proofs.Basics.{◌≡◌, ℕ, ◌<◌, ◌≤◌, length}
use Rattle.px_tree.specs.Nodes.{at_place, next_at}
use Rattle.px_tree.proofs.feeding.feed_nodes.Given as goal

abbrev pub invariant-loop-place : goal.invariant-loop-place
invariant-loop-place l = record {
  untouched : (k : ℕ) → k < l.place → at_place l.nodes k ≡ at_place l.fn.nodes k;
  fed : (k : ℕ) → l.place ≤ k → k < length l.nodes → at_place l.nodes k ≡ next_at l.a l.b l.c l.first_b l.fn.nodes k;
}

use Rattle.px_num.proofs.Basics.{◌≤◌}
use Rattle.px_plane_tree.proofs.LevelLemmas.{IsFedDown, levels}
use Rattle.px_plane_tree.proofs.heap.feed_heap.Given as goal

abbrev pub invariant-loop-u : goal.invariant-loop-u
invariant-loop-u l = record {
  low : 1 ≤ l.u;
  down : IsFedDown l.feed.nx l.feed.now l.u (levels l.fn.outputs l.fn.carries l.fn.still) (levels l.outputs l.carries l.still);
}

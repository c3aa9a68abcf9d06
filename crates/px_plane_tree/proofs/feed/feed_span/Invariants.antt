use Rattle.px_num.proofs.Basics.{◌-◌, ◌*◌, ◌≡◌, ◌≤◌, ◌%◌}
use Rattle.px_plane_tree.specs.Heap.{IsFed, rows}
use Rattle.px_plane_tree.proofs.feed.feed_span.Given as goal

abbrev pub invariant-loop-h : goal.invariant-loop-h
invariant-loop-h l = record {
  from : l.from ≤ l.h;
  to : l.h ≤ l.to;
  even : l.h % 2 ≡ 0;
  fed : IsFed l.line (2 * l.h) (2 * l.to) (rows l.fn.outputs l.fn.carries) (rows l.outputs l.carries);
}

abbrev pub decreases-loop-h : goal.decreases-loop-h
decreases-loop-h l = l.h - l.from

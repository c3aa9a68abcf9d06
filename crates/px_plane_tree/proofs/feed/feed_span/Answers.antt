use Rattle.px_num.proofs.Basics.{◌-◌, arith}
use Rattle.px_plane_tree.proofs.HeapLemmas.{span_law}
use Rattle.px_plane_tree.proofs.feed.feed_span.Goals as goal

pub loop-h-preserved : goal.loop-h-preserved
loop-h-preserved c =
    record {
      from = omega arith;
      to = omega arith;
      even = omega arith;
      fed = span_law c.args.line (c.loop-h.h - 2) c.loop-h.h c.args.to _ _ _ _ _ _ (omega arith) (omega arith)
          (omega arith) (omega arith) c.loop-h.invariant.fed c.feed_pair.ensures;
    }

use Rattle.px_num.proofs.Basics.{arith, All-push}
use Rattle.px_num.specs.Forms.{IsInTreeRange}
use Rattle.px_face.proofs.EdgeLemmas.{edges_more}
use Rattle.px_face.proofs.edge.edges.Goals as goal

pub loop-place-preserved : goal.loop-place-preserved
loop-place-preserved c = record {
  forms = grind (arith, edges_more);
  count = omega (arith, c.push.ensures.len, c.loop-place.invariant.count);
  range = rw c.push.ensures.items (All-push IsInTreeRange c.loop-place.buf.items c.edge_at.result
      c.loop-place.invariant.range c.edge_at.ensures.range);
}

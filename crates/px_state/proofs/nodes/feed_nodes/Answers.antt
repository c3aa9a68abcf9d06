use Rattle.px_state.proofs.Cited.{after_feed, ap, arith, nat_bit, nodes_at, ◌+◌, ◌-◌, ◌/◌, ◌<◌, ◌∙◌, ◌≡◌}
use Rattle.px_state.proofs.ShapeLemmas.{kept_both}
use Rattle.px_state.proofs.NodeLemmas.{one_more_word}
use Rattle.px_state.proofs.nodes.feed_nodes.Goals as goal

pub loop-w-preserved : goal.loop-w-preserved
loop-w-preserved c =
    let shape = c.args.shape.now in
    let lines = c.args.lines in
    let before = c.loop-w.invariant in
    let v = c.loop-w.w - 1 in
    let next : c.loop-w.w ≡ v + 1 = omega arith in
    let within : v < shape.nodes = omega arith in
    let put = c.put_nodes.ensures in
    let fed = rw c.start-outputs.ensures.start at c.fed_word-output.ensures in
    record {
      output = λ tree size held k high below.
          one_more_word shape (λ n. n.output) (after_feed lines.a lines.b lines.c tree) (nodes_at shape) v
          c.fed_word-output.result.0 c.loop-w.words c.put_nodes.new.words put.output
          (λ k below other. put.others (nodes_at shape + k) (omega (arith, other)) (omega (arith, within)))
          (fed.output tree size
          (λ j bit. ap (λ w. nat_bit w j) (before.outputs (v / 2) (omega arith)) ∙ held.output (v / 2) (omega arith) j bit)
          (λ j bit. ap (λ w. nat_bit w j) (before.carries v (omega arith)) ∙ held.carry v within j bit))
          k below (λ other. before.output tree size held k (omega (arith, high, other)) below);
      carry = λ tree size held k high below.
          one_more_word shape (λ n. n.carry) (after_feed lines.a lines.b lines.c tree) (nodes_at shape + shape.nodes) v
          c.fed_word-output.result.1 c.loop-w.words c.put_nodes.new.words put.carry
          (λ k below other. put.others (nodes_at shape + shape.nodes + k) (omega (arith, within, below))
          (omega (arith, other)))
          (fed.carry tree size
          (λ j bit. ap (λ w. nat_bit w j) (before.outputs (v / 2) (omega arith)) ∙ held.output (v / 2) (omega arith) j bit)
          (λ j bit. ap (λ w. nat_bit w j) (before.carries v (omega arith)) ∙ held.carry v within j bit))
          k below (λ other. before.carry tree size held k (omega (arith, high, other)) below);
      outputs = λ k low. put.others (nodes_at shape + k) (omega (arith, low)) (omega (arith, within))
          ∙ before.outputs k (omega (arith, low));
      carries = λ k low. put.others (nodes_at shape + shape.nodes + k) (omega (arith, low, within)) (omega (arith, low))
          ∙ before.carries k (omega (arith, low));
      kept = kept_both before.kept put.kept (omega arith);
    }

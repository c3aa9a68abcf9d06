use Rattle.px_state.proofs.Cited.{arith, nodes_at, ◌+◌, ◌<◌, ◌∙◌}
use Rattle.px_state.proofs.ShapeLemmas.{kept_both}
use Rattle.px_state.proofs.NodeLemmas.{latch_word, masked, one_more_word}
use Rattle.px_state.proofs.nodes.write_nodes.Goals as goal

pub loop-w-preserved : goal.loop-w-preserved
loop-w-preserved c =
    let shape = c.args.shape.now in
    let before = c.loop-w.invariant in
    let w = c.loop-w.w in
    let put = c.put_nodes.ensures in
    let within : w < shape.nodes = c.loop-w-test.true in
    record {
      output = λ tree size is k low.
          one_more_word shape (λ n. n.output) tree (nodes_at shape) w c.chosen_word-output.result c.loop-w.words
          c.put_nodes.new.words put.output (λ k below other. put.others (nodes_at shape + k) (omega (arith, other))
          (omega (arith, within)))
          (λ j bit. c.chosen_word-output.ensures j bit ∙ masked shape tree size (λ n. n.output) c.places-there.result _ w
          c.places-there.ensures (λ j bit some inside. latch_word tree (λ n. n.output) c.args.outputs.now w j is bit
          (rw (size.columns, size.rows) inside)) j bit)
          k (omega (arith, low, within)) (λ other. before.output tree size is k (omega (arith, low, other)));
      carry = λ tree size is k low.
          one_more_word shape (λ n. n.carry) tree (nodes_at shape + shape.nodes) w c.chosen_word-carry.result
          c.loop-w.words c.put_nodes.new.words put.carry
          (λ k below other. put.others (nodes_at shape + shape.nodes + k) (omega (arith, within, below))
          (omega (arith, other)))
          (λ j bit. c.chosen_word-carry.ensures j bit ∙ masked shape tree size (λ n. n.carry) c.places-there.result _ w
          c.places-there.ensures (λ j bit some inside. latch_word tree (λ n. n.carry) c.args.carries.now w j is bit
          (rw (size.columns, size.rows) inside)) j bit)
          k (omega (arith, low, within)) (λ other. before.carry tree size is k (omega (arith, low, other)));
      kept = kept_both before.kept put.kept (omega arith);
    }

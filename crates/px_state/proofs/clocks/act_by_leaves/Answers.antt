use Rattle.px_state.proofs.Cited.{arith, IsShapeOf}
use Rattle.px_state.proofs.ActingLemmas.{acted_pixels, kept_pixels}
use Rattle.px_state.proofs.clocks.act_by_leaves.Goals as goal

pub returns-clause-pixels : goal.returns-clause-pixels
returns-clause-pixels c = λ s grid pixels nodes.
    let shape = c.args.shape.now in
    let old = c.args.words.now in
    let new = c.write_leaves.new.words in
    let leaves = c.write_leaves.ensures in
    let size : IsShapeOf shape s.tree = record { columns = grid.columns; rows = grid.rows } in
    acted_pixels shape s grid c.args.act.now new c.act_all.new.words
    (kept_pixels shape s.pixels _ _ old new leaves.kept (omega arith) pixels) (leaves.leaves s.tree size nodes)
    c.act_all.ensures.acted

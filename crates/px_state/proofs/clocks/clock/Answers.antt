use Rattle.px_state.proofs.Cited.{arith, grid_after_clock, IsShapeOf}
use Rattle.px_state.proofs.ActingLemmas.{kept_pixels}
use Rattle.px_state.proofs.ClockedLemmas.{kept_nodes}
use Rattle.px_state.proofs.clocks.clock.Goals as goal

pub returns-clause-clocked : goal.returns-clause-clocked
returns-clause-clocked c = λ s held.
    let shape = c.args.shape.now in
    let m = c.args.m.now in
    let act = c.act_by_nodes.ensures in
    let done = c.act_by_nodes.new.words in
    let moved = c.move_nodes.ensures in
    let size : IsShapeOf shape s.tree = record { columns = held.grid.columns; rows = held.grid.rows } in
    record {
      grid = grid_after_clock shape.bits shape.nx shape.ny m s held.grid;
      pixels = kept_pixels shape _ _ _ done c.move_nodes.new.words moved.kept (omega arith)
          (act.pixels s held.grid held.pixels held.nodes);
      nodes = moved.nodes s.tree size (kept_nodes shape s.tree _ c.args.words.now done act.kept held.nodes);
    }

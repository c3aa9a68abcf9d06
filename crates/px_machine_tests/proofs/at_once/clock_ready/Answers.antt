use Rattle.px_num.proofs.Basics.{[], ◌∷◌}
use Rattle.px_array.proofs.ClockLaws.{grid_after_clocks}
use Rattle.px_machine_tests.proofs.at_once.clock_ready.Goals as goal

pub returns-clause-ready : goal.returns-clause-ready
returns-clause-ready g c =
    let s = (g.A.Array.view c.args.array.now).device.state in
    let h = grid_after_clocks g.A.Array.BITS s.tree.nx s.tree.ny (c.args.m ∷ []) s c.requires.ready.pixels in
    record {
      grid = rw (c.clock.ensures.device, h.columns, h.rows) c.requires.ready.grid;
      pixels = rw (c.clock.ensures.device, h.columns, h.rows) h;
    }

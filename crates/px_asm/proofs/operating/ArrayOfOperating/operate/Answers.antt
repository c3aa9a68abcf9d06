use Rattle.px_num.proofs.Basics.{◌≡◌}
use Rattle.px_asm.proofs.Words.{grid_after_clocks, micros_on}
use Rattle.px_asm.proofs.KeptLemmas.{kept_by_micros}
use Rattle.px_asm.proofs.operating.ArrayOfOperating.operate.Goals as goal

pub returns-then-not-operate_at_once-clause-operated : goal.returns-then-not-operate_at_once-clause-operated
returns-then-not-operate_at_once-clause-operated g c =
    let before = c.args.self.now.device in
    let same : c.operate_at_once.new.array ≡ c.args.self.now =
    c.operate_at_once.ensures.left c.if-not-operate_at_once.true in
    let made = rw same at c.make_operation.ensures in
    record {
      grid = rw (made.device) (grid_after_clocks g.G.Grid.BITS before.state.tree.nx before.state.tree.ny
          (micros_on before c.args.m.now) before.state c.requires.pixels);
      meaning = made.meaning;
      kept = rw (made.device) (kept_by_micros g.G.Grid.BITS before.state.tree.nx before.state.tree.ny c.args.m.now
          before.state
          c.requires.pixels);
      clocks = made.clocks;
    }

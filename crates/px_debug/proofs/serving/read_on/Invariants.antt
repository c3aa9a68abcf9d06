use Rattle.px_num.proofs.Basics.{◌+◌, ◌<◌, ◌^◌, ◌-◌}
use Rattle.px_debug.specs.Moves.{Fits}
use Rattle.px_debug.specs.Catching.{Begun, Caught}
use Rattle.px_debug.specs.Prompts.{moment}
use Rattle.px_debug.proofs.serving.read_on.Given as goal

abbrev pub invariant-loop-more : goal.invariant-loop-more
invariant-loop-more g l = record {
  fits : Fits g.A.Array.BITS l.session (g.A.Array.view l.array);
  few : l.session.lines + l.more < 2 ^ 64 - 1;
  caught : (b : Begun) → Caught g.A.Array.BITS b l.limit
      (moment l.fn.session (g.A.Array.view l.fn.array).work (g.O.Sink.state l.fn.out)
      (g.S.Asks.asks l.fn.input) (g.S.Source.rest l.fn.input) (g.S.Source.faults l.fn.input)) l.fn.held.items
      → Caught g.A.Array.BITS b l.more (moment l.session (g.A.Array.view l.array).work (g.O.Sink.state l.out)
      (g.S.Asks.asks l.input) (g.S.Source.rest l.input) (g.S.Source.faults l.input)) l.held.items;
}

abbrev pub decreases-loop-more : goal.decreases-loop-more
decreases-loop-more g l = l.more

use Rattle.px_num.proofs.Basics.{◌≡◌, ◌+◌, ◌++◌, ◌≤◌, List, ℕ, take}
use Rattle.px_debug.specs.Moves.{Fits}
use Rattle.px_debug.specs.Sessions.{Stand, stand}
use Rattle.px_debug.specs.Turns.{Fed}
use Rattle.px_debug.specs.declared.session.Going.TheVariants as going
use Rattle.px_debug.proofs.feed.feed.Given as goal

abbrev pub invariant-loop-byte : goal.invariant-loop-byte
invariant-loop-byte g l = record {
  fits : Fits g.A.Array.BITS l.session (g.A.Array.view l.array);
  fed : (from : Stand) (text : List ℕ) → Fed going.More g.A.Array.BITS text from
      (stand l.fn.session (g.A.Array.view l.fn.array).work (g.O.Sink.state l.fn.out)) l.fn.held.items
      → Fed going.More g.A.Array.BITS (text ++ take l.byte-index l.bytes) from
      (stand l.session (g.A.Array.view l.array).work (g.O.Sink.state l.out)) l.held.items;
  count : l.session.lines ≤ l.fn.session.lines + l.byte-index;
  calm : (g.O.Sink.state l.out).faults ≡ (g.O.Sink.state l.fn.out).faults;
}

use Rattle.px_state.proofs.Cited.{after_clocks, HoldsPixelsAndNodes, KeepsOutside, map, nodes_end, State, take}
use Rattle.px_state.specs.Packing.{micro_in}
use Rattle.px_state.proofs.clocks.clock_all.Given as goal

abbrev pub invariant-loop-word : goal.invariant-loop-word
invariant-loop-word l =
    let shape = l.shape in
    record {
      clocked : (s : State) → HoldsPixelsAndNodes shape s l.fn.words
          → HoldsPixelsAndNodes shape (after_clocks (map micro_in (take l.word-index l.micros)) s) l.words;
      kept : KeepsOutside 0 (nodes_end shape) l.fn.words l.words;
    }

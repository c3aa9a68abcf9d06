use Rattle.px_num.proofs.Basics.{◌-◌, ◌≡◌, ◌≤◌, length, take, vec_len}
use Rattle.px_asked.specs.Hearings.{Heard}
use Rattle.px_asked.specs.Searches.{HasSeen}
use Rattle.px_asked.proofs.reading.read_part.Given as goal

abbrev pub invariant-loop-piece : goal.invariant-loop-piece
invariant-loop-piece g l = record {
  within : vec_len l.text ≤ l.limit;
  heard : Heard (record { limit = l.limit; asks = g.S.Asks.asks l.fn.input; rest = g.S.Source.rest l.fn.input })
      (g.S.Asks.asks l.input) (g.S.Source.rest l.input) (g.O.Sink.state l.out).written l.text.items;
  calm : g.S.Source.faults l.input ≡ g.S.Source.faults l.fn.input;
  seen : HasSeen l.search (take (l.limit - 1) l.text.items);
  all : l.search.at ≡ length (take (l.limit - 1) l.text.items);
}

abbrev pub decreases-loop-piece : goal.decreases-loop-piece
decreases-loop-piece g l = l.limit - vec_len l.text

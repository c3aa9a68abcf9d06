use Rattle.px_num.proofs.Basics.{◌-◌, ◌≡◌, ◌≤◌, vec_len, Consumes}
use Rattle.px_io.proofs.reading.read_whole.Given as goal

abbrev pub invariant-loop-piece : goal.invariant-loop-piece
invariant-loop-piece g l = record {
  within : vec_len l.bytes ≤ l.limit;
  taken : Consumes (g.S.Source.rest l.fn.input) (g.S.Source.rest l.input) l.bytes.items;
  calm : g.S.Source.faults l.input ≡ g.S.Source.faults l.fn.input;
}

abbrev pub decreases-loop-piece : goal.decreases-loop-piece
decreases-loop-piece g l = l.limit - vec_len l.bytes

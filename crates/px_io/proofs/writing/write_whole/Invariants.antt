use Rattle.px_num.proofs.Basics.{length, ◌-◌, ◌≡◌, ◌≤◌, take, Appends}
use Rattle.px_io.specs.Reports.{Reopens}
use Rattle.px_io.proofs.writing.write_whole.Given as goal

abbrev pub invariant-loop-at : goal.invariant-loop-at
invariant-loop-at g l = record {
  within : l.at ≤ length l.bytes;
  front : Appends (g.O.Sink.state l.fn.out).written (g.O.Sink.state l.out).written (take l.at l.bytes);
  end : Reopens (g.O.Sink.state l.fn.out).finished (g.O.Sink.state l.out).finished l.at;
  calm : (g.O.Sink.state l.out).faults ≡ (g.O.Sink.state l.fn.out).faults;
}

abbrev pub decreases-loop-at : goal.decreases-loop-at
decreases-loop-at g l = length l.bytes - l.at

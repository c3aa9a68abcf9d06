use Rattle.px_num.proofs.Basics.{◌≡◌, ◌≤◌, ◌-◌, length, take}
use Rattle.px_io.specs.Reports.{TakesAll}
use Rattle.px_tile.specs.Parts.{bytes_of}
use Rattle.px_tile.proofs.image.write_pixels.Given as goal

abbrev pub invariant-loop-start : goal.invariant-loop-start
invariant-loop-start g l = record {
  within : l.start ≤ length l.found;
  front : TakesAll (g.O.Sink.state l.fn.out) (g.O.Sink.state l.out) (bytes_of l.part (take l.start l.found));
  calm : (g.O.Sink.state l.out).faults ≡ (g.O.Sink.state l.fn.out).faults;
}

abbrev pub decreases-loop-start : goal.decreases-loop-start
decreases-loop-start g l = length l.found - l.start

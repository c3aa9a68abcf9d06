use Rattle.px_num.proofs.Basics.{◌≡◌, ◌-◌, length, take, flat_map}
use Rattle.px_listing.proofs.Words.{macro_line, passes, Puts}
use Rattle.px_sched.specs.Cursors.{Stands}
use Rattle.px_listing.proofs.passes.put_passes.Given as goal

abbrev pub decreases-loop-m : goal.decreases-loop-m
decreases-loop-m g l = length (passes l.scene) - l.cursor.given

abbrev pub invariant-loop-m : goal.invariant-loop-m
invariant-loop-m g l = record {
  stands : Stands l.scene l.cursor;
  put : Puts (g.O.Sink.state l.fn.out) (g.O.Sink.state l.out) l.fn.piece.bytes
      (flat_map macro_line (take l.cursor.given (passes l.scene))) l.piece.bytes;
  calm : (g.O.Sink.state l.out).faults ≡ (g.O.Sink.state l.fn.out).faults;
}

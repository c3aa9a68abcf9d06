use Rattle.px_num.proofs.Basics.{◌≡◌, take}
use Rattle.px_io.specs.Reports.{TakesAll}
use Rattle.px_frame.specs.Images.{images}
use Rattle.px_frame.proofs.drawing.write_images.Given as goal

abbrev pub invariant-loop-plane : goal.invariant-loop-plane
invariant-loop-plane g l = record {
  taken : TakesAll (g.O.Sink.state l.fn.out) (g.O.Sink.state l.out) (images l.scene (take l.plane-index l.planes));
  calm : (g.O.Sink.state l.out).faults ≡ (g.O.Sink.state l.fn.out).faults;
}

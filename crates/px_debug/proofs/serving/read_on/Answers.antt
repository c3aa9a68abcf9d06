use Rattle.px_num.proofs.Basics.{arith}
use Rattle.px_debug.proofs.TurningLemmas.{stopped_full}
use Rattle.px_debug.proofs.serving.read_on.Goals as goal

pub returns-clause-serves : goal.returns-clause-serves
returns-clause-serves g c = λ b caught.
    stopped_full _ b _ _ _ (omega arith) (c.loop-more.invariant.caught b caught)

pub loop-more-preserved : goal.loop-more-preserved
loop-more-preserved g c = record {
  fits = c.read_and_answer.ensures.fits;
  few = c.in-Ok.ensures.count.2;
  caught = λ b start. c.in-Ok.ensures.caught b (c.loop-more.invariant.caught b start);
}

use Rattle.px_num.proofs.Basics.{refl, []}
use Rattle.px_debug.specs.Servings.{lines_in}
use Rattle.px_debug.specs.Sessions.{stand}
use Rattle.px_debug.proofs.FeedingLemmas.{fed_none}
use Rattle.px_debug.proofs.TurningLemmas.{unasked}
use Rattle.px_debug.proofs.serving.finish_unasked.Goals as goal

pub returns-clause-serves : goal.returns-clause-serves
returns-clause-serves g c bits more session work asks rest faults end some =
    unasked _ bits more _ _ c.finish.ensures.result end some refl refl refl
    (c.finish.ensures.served bits (stand session work _) session work (lines_in [])
    (fed_none bits (stand session work _) [] refl).went.answered refl) c.finish.ensures.cause

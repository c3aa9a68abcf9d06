use Rattle.px_control.proofs.EndLemmas.{none_after_all}
use Rattle.px_control.proofs.job.Job.total_clocks.Goals as goal

pub returns-clause-last : goal.returns-clause-last
returns-clause-last c = rw (← c.self.view_is, c.self.invariant.clocks) (none_after_all c.self.inside.program)

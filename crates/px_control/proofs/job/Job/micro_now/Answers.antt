use Rattle.px_control.proofs.PlaceLemmas.{micro_is}
use Rattle.px_control.proofs.job.Job.micro_now.Goals as goal

pub returns : goal.returns
returns c = rw (← c.self.view_is) (micro_is c.self.inside.program c.self.inside.place c.self.invariant.stands)

use Rattle.px_control.proofs.PlaceLemmas.{operation_is}
use Rattle.px_control.proofs.job.Job.macro_now.Goals as goal

pub returns : goal.returns
returns c = rw (← c.self.view_is) (operation_is c.self.inside.program c.self.inside.place c.self.invariant.stands)

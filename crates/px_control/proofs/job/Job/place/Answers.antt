use Rattle.px_control.proofs.job.Job.place.Goals as goal

pub returns-clause-stands : goal.returns-clause-stands
returns-clause-stands c = rw (← c.self.view_is) c.self.invariant.stands

use Rattle.px_num.proofs.Basics.{subst, sym}
use Rattle.px_control.specs.Standing.{JobView, StandsFor}
use Rattle.px_control.proofs.job.Job.return_to.Goals as goal

pub invariant_of-self : goal.invariant_of-self
invariant_of-self c = record {
  can_run = c.self.invariant.can_run;
  stands = subst (λ (v : JobView). StandsFor v.scene c.args.place) (sym c.self.view_is) c.requires;
  operations = c.self.invariant.operations;
  clocks = c.self.invariant.clocks;
}

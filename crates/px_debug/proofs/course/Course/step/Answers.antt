use Rattle.px_num.proofs.Basics.{◌∙◌}
use Rattle.px_control.specs.Program.{program}
use Rattle.px_debug.proofs.TraceLemmas.{one}
use Rattle.px_debug.proofs.course.Course.step.Goals as goal

pub returns-clause-trace : goal.returns-clause-trace
returns-clause-trace g c =
    c.go.ensures.trace ∙ rw (one (program c.args.self.now.job.scene) c.args.self.now.job.place.clock
    c.next_micro.result c.next_micro.ensures) c.push_back.ensures.items

use Rattle.px_num.proofs.Basics.{arith}
use Rattle.px_sched.proofs.StepLemmas.{begins}
use Rattle.px_sched.proofs.step.judge_from.Goals as goal

pub returns-then-other-rs : goal.returns-then-other-rs
returns-then-other-rs c = λ scene q. begins scene q c.args.rs.now c.args.other (omega (arith, c.if-other-rs.true))

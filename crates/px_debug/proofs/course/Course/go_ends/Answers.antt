use Rattle.px_num.proofs.Basics.{arith}
use Rattle.px_debug.proofs.JumpLemmas.{nowhere_to_go, one_end_on}
use Rattle.px_debug.proofs.course.Course.go_ends.Goals as goal

pub returns-then-now-total_clocks-clause-clock : goal.returns-then-now-total_clocks-clause-clock
returns-then-now-total_clocks-clause-clock g c = grind (arith, nowhere_to_go)

pub loop-preserved : goal.loop-preserved
loop-preserved g c = grind (arith, one_end_on)

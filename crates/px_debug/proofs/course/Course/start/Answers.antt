use Rattle.px_num.proofs.Basics.{arith}
use Rattle.px_debug.proofs.MarkingLemmas.{first_mark}
use Rattle.px_debug.proofs.TraceLemmas.{none_before}
use Rattle.px_debug.proofs.course.Course.start.Goals as goal

pub returns-clause-kept : goal.returns-clause-kept
returns-clause-kept c = grind (arith, first_mark, none_before)

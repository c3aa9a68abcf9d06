use Rattle.px_num.proofs.Basics.{arith, length-drop}
use Rattle.px_io.proofs.ToldLaws.{appends_more}
use Rattle.px_io.proofs.writing.write_whole.Goals as goal

pub loop-at-preserved : goal.loop-at-preserved
loop-at-preserved g c = grind (arith, length-drop, appends_more)

use Rattle.std.proofs.lemmas.Grind.{common_steps}
use Rattle.px_num.proofs.Basics.{arith}
use Rattle.px_frame.proofs.RowLaws.{pixels_grown}
use Rattle.px_frame.proofs.ShownLemmas.{width_fits}
use Rattle.px_frame.proofs.image.row_bytes.Goals as goal

pub loop-x-preserved : goal.loop-x-preserved
loop-x-preserved c = grind (arith, common_steps, width_fits, pixels_grown)

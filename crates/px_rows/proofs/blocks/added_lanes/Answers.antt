use Rattle.px_num.proofs.Basics.{arith}
use Rattle.px_rows.proofs.WordLemmas.{added_lane}
use Rattle.px_rows.proofs.blocks.added_lanes.Goals as goal

pub returns : goal.returns
returns c = grind (arith, added_lane)

use Rattle.px_num.proofs.Basics.{get_or-chunk}
use Rattle.px_rows.proofs.blocks.read.Goals as goal

pub returns : goal.returns
returns c = record { each = λ i h. get_or-chunk c.args.at 8 c.args.row.now i 0 h }

use Rattle.px_rows.proofs.blocks.write.Goals as goal
use Rattle.px_num.proofs.Basics.{arith}
use Rattle.px_num.proofs.Basics.{get_or-put_chunk_at}
use Rattle.px_num.proofs.Basics.{get_or-put_chunk_below}
use Rattle.px_num.proofs.Basics.{get_or-put_chunk_above}

pub returns : goal.returns
returns c = grind (arith, get_or-put_chunk_at, get_or-put_chunk_below, get_or-put_chunk_above)

use Rattle.px_num.proofs.Basics.{arith, get_or-put_chunk_at, get_or-put_chunk_below, get_or-put_chunk_above}
use Rattle.px_plane_tree.proofs.pairs.store.Goals as goal

pub returns : goal.returns
returns c = grind (arith, get_or-put_chunk_at, get_or-put_chunk_below, get_or-put_chunk_above)

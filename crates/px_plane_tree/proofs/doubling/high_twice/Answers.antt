use Rattle.px_plane_tree.proofs.WeaveLemmas.{high_looked_up}
use Rattle.px_plane_tree.proofs.doubling.high_twice.Goals as goal

pub returns : goal.returns
returns c = high_looked_up c.args.bytes c.fits-bytes.0 c.fits-bytes.1

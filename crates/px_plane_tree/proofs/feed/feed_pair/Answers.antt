use Rattle.std.proofs.Common.{rules}
use Rattle.px_plane_tree.proofs.HeapLemmas.{pair_law}
use Rattle.px_plane_tree.proofs.feed.feed_pair.Goals as goal

pub returns : goal.returns
returns c = search (rules, pair_law)

use Rattle.std.proofs.Common.{rules}
use Rattle.px_plane_tree.proofs.HeapLemmas.{first_law}
use Rattle.px_plane_tree.proofs.feed.feed_first.Goals as goal

pub returns : goal.returns
returns c = search (rules, first_law)

use Rattle.px_tree.proofs.FeedingLemmas.{all_fed}
use Rattle.px_tree.proofs.feeding.feed_nodes.Goals as goal

pub returns : goal.returns
returns c =
    let loop = c.loop-place.invariant in
    all_fed _ _ _ _ _ _ c.loop-place.place c.loop-place.auto.nodes c.loop-place-test.false loop.untouched loop.fed

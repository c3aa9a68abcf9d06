use Rattle.px_tree.proofs.PlaceLaws.{place_below}
use Rattle.px_tree.proofs.places.node_place.Goals as goal

pub returns-clause-within : goal.returns-clause-within
returns-clause-within c = rw c.power.ensures (place_below _ _ _ c.requires.level c.requires.index)

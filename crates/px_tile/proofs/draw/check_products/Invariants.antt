use Rattle.px_num.proofs.Basics.{◌≡◌, None}
use Rattle.px_tile.specs.Drawn.{crowd_of_tile}
use Rattle.px_tile.proofs.FirstLemmas.{found_from}
use Rattle.px_tile.proofs.draw.check_products.Given as goal

abbrev pub invariant-loop-tile : goal.invariant-loop-tile
invariant-loop-tile l = found_from (crowd_of_tile l.scene l.width l.height) 0 l.tile ≡ None

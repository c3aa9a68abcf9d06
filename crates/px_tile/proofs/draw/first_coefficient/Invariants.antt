use Rattle.px_num.proofs.Basics.{◌≡◌, None}
use Rattle.px_model.specs.Planes.{first_past}
use Rattle.px_tile.specs.Tilings.{scene_of_tile}
use Rattle.px_tile.proofs.FirstLemmas.{found_from}
use Rattle.px_tile.proofs.draw.first_coefficient.Given as goal

abbrev pub invariant-loop-tile : goal.invariant-loop-tile
invariant-loop-tile l =
    found_from (λ tile. first_past (scene_of_tile l.scene l.width l.height tile).solids) 0 l.tile ≡ None

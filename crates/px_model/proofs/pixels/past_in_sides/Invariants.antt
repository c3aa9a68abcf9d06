use Rattle.px_num.proofs.Basics.{◌≡◌, drop, find, map}
use Rattle.px_model.specs.Pixels.{plane_over}
use Rattle.px_model.specs.Planes.{is_past}
use Rattle.px_model.proofs.pixels.past_in_sides.Given as goal

abbrev pub invariant-loop-side : goal.invariant-loop-side
invariant-loop-side l =
    find is_past (map (plane_over l.pixels) l.sides)
    ≡ find is_past (map (plane_over l.pixels) (drop l.side-index l.sides))

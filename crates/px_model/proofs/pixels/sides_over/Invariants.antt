use Rattle.px_num.proofs.Basics.{◌≡◌, map, take}
use Rattle.px_model.specs.Pixels.{plane_over}
use Rattle.px_model.proofs.pixels.sides_over.Given as goal

abbrev pub invariant-loop-side : goal.invariant-loop-side
invariant-loop-side l = l.over.items ≡ map (plane_over l.pixels) (take l.side-index l.sides)

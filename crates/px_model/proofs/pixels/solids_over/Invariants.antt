use Rattle.px_num.proofs.Basics.{◌≡◌, map, take}
use Rattle.px_model.specs.Pixels.{solid_over}
use Rattle.px_model.proofs.pixels.solids_over.Given as goal

abbrev pub invariant-loop-solid : goal.invariant-loop-solid
invariant-loop-solid l = l.over.items ≡ map (solid_over l.pixels) (take l.solid-index l.solids)

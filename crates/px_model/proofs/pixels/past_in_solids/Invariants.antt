use Rattle.px_num.proofs.Basics.{◌≡◌, drop, find, map}
use Rattle.px_model.specs.Pixels.{solid_over}
use Rattle.px_model.specs.Planes.{is_past, planes_of}
use Rattle.px_model.proofs.pixels.past_in_solids.Given as goal

abbrev pub invariant-loop-solid : goal.invariant-loop-solid
invariant-loop-solid l =
    find is_past (planes_of (map (solid_over l.pixels) l.solids))
    ≡ find is_past (planes_of (map (solid_over l.pixels) (drop l.solid-index l.solids)))

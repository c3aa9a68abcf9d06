use Rattle.px_num.proofs.Basics.{◌≡◌, ◌-◌, find, ◌+◌, length, flat_map, range_with_len}
use Rattle.px_model.specs.Pixels.{solid_over}
use Rattle.px_model.specs.Planes.{face_planes, is_past, planes_numbered}
use Rattle.px_model.proofs.pixels.past_in_faces.Given as goal

abbrev pub invariant-loop-number : goal.invariant-loop-number
invariant-loop-number l =
    let past_end = l.solid.near_number + 1 + (length l.solid.fronts + length l.solid.backs) in
    find is_past (face_planes (solid_over l.pixels l.solid))
    ≡ find is_past (flat_map (planes_numbered (solid_over l.pixels l.solid))
    (range_with_len l.number (past_end - l.number)))

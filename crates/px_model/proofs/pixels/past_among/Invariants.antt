use Rattle.px_num.proofs.Basics.{◌≡◌, drop, find, map}
use Rattle.px_model.specs.Pixels.{face_over}
use Rattle.px_model.specs.Planes.{is_past, planes_among}
use Rattle.px_model.proofs.pixels.past_among.Given as goal

abbrev pub invariant-loop-face : goal.invariant-loop-face
invariant-loop-face l =
    find is_past (planes_among (map (face_over l.pixels) l.faces) l.number)
    ≡ find is_past (planes_among (map (face_over l.pixels) (drop l.face-index l.faces)) l.number)

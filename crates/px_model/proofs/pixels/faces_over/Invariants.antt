use Rattle.px_num.proofs.Basics.{◌≡◌, map, take}
use Rattle.px_model.specs.Pixels.{face_over}
use Rattle.px_model.proofs.pixels.faces_over.Given as goal

abbrev pub invariant-loop-face : goal.invariant-loop-face
invariant-loop-face l = l.over.items ≡ map (face_over l.pixels) (take l.face-index l.faces)

use Rattle.px_num.proofs.Basics.{◌≡◌, ◌++◌, take}
use Rattle.px_scene.specs.Canonical.{face_lines_at}
use Rattle.px_scene.proofs.write.put_faces_at.Given as goal

abbrev pub invariant-loop-face : goal.invariant-loop-face
invariant-loop-face l = l.text.items
    ≡ l.initial.text.items ++ face_lines_at l.keyword (take l.face-index l.faces) l.number

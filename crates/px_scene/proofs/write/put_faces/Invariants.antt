use Rattle.px_num.proofs.Basics.{◌≡◌, ◌++◌, ◌+◌, flat_map, range_with_len}
use Rattle.px_scene.specs.Canonical.{lines_of_number}
use Rattle.px_scene.proofs.write.put_faces.Given as goal

abbrev pub invariant-loop-i : goal.invariant-loop-i
invariant-loop-i l = l.text.items ≡ l.initial.text.items ++ flat_map (lines_of_number l.solid)
    (range_with_len (l.solid.near_number + 1) l.i)

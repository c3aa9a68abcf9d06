use Rattle.px_num.proofs.Basics.{◌≡◌, ◌++◌, take, flat_map}
use Rattle.px_scene.specs.Canonical.{side_line}
use Rattle.px_scene.proofs.write.put_sides.Given as goal

abbrev pub invariant-loop-side : goal.invariant-loop-side
invariant-loop-side l = l.text.items ≡ l.initial.text.items ++ flat_map side_line (take l.side-index l.sides)

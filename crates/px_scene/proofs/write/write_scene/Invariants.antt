use Rattle.px_num.proofs.Basics.{◌≡◌, ◌++◌, take, All, flat_map}
use Rattle.px_scene.proofs.CanonicalWords.{first_lines, IsLawfulSolid, solid_lines}
use Rattle.px_scene.proofs.write.write_scene.Given as goal

abbrev pub invariant-loop-solid : goal.invariant-loop-solid
invariant-loop-solid l = record {
  text : l.text.items ≡ first_lines l.scene ++ flat_map solid_lines (take l.solid-index l.scene.solids);
  lawful : All IsLawfulSolid (take l.solid-index l.scene.solids);
}

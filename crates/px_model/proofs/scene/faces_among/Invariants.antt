use Rattle.px_num.proofs.Basics.{◌≡◌, All, take}
use Rattle.px_model.specs.Scenes.{faces_of, IsLawfulSolid}
use Rattle.px_model.proofs.scene.faces_among.Given as goal

abbrev pub invariant-loop-solid : goal.invariant-loop-solid
invariant-loop-solid l =
    (l.faces ≡ faces_of (take l.solid-index l.solids)) × All IsLawfulSolid (take l.solid-index l.solids)

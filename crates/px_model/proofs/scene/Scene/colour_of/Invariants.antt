use Rattle.px_num.proofs.Basics.{◌≡◌, drop}
use Rattle.px_model.specs.Scenes.{colour_in_scene}
use Rattle.px_model.proofs.scene.Scene.colour_of.Given as goal

abbrev pub invariant-loop-solid : goal.invariant-loop-solid
invariant-loop-solid l =
    colour_in_scene l.solid-items l.number ≡ colour_in_scene (drop l.solid-index l.solid-items) l.number

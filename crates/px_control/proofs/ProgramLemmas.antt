-- What holds of the program of a scene that can be run.
use Rattle.px_num.proofs.Basics.{arith}
use Rattle.px_control.proofs.Words.{CanRun, is_lawful_in_more, passes_are_lawful, scene_layout, SceneView}
use Rattle.px_asm.proofs.CycleLaws.{few_cycles, some_cycles}
use Rattle.px_control.specs.ProgramLaws.{IsGoodProgram}
use Rattle.px_control.proofs.BoundLemmas.{few_clocks, some_clocks}
use Rattle.px_control.proofs.PictureLemmas.{scene_grid}

pub good_program : (scene : SceneView) → CanRun scene → IsGoodProgram scene
good_program scene can =
    let grid = scene_grid scene can.lawful in
    let layout = scene_layout scene can.lawful in
    grind (arith, is_lawful_in_more, some_cycles, few_cycles, passes_are_lawful, few_clocks, some_clocks)

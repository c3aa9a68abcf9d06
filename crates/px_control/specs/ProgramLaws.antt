-- What holds of the program of every scene that can be run. Clauses of public calls stand on it.
use Rattle.std.specs.Prelude.{◌^◌, ◌<◌, ◌≤◌, All, length}
use Rattle.px_macro.specs.Macros.{IsLawful}
use Rattle.px_macro.specs.declared.operation.Macro.{Macro}
use Rattle.px_model.specs.Scenes.{SceneView}
use Rattle.px_tree.specs.Nodes.{IsGrid}
use Rattle.px_sched.specs.Layouts.{layout_of, need_of}
use Rattle.px_sched.specs.Passes.{passes}
use Rattle.px_control.specs.declared.law.TheConstants.{MAX_LAYOUT_BITS}
use Rattle.px_control.specs.Program.{columns_of, cycles_in, rows_of, total}

-- pixels that have bits enough can carry every operation out
abbrev pub HaveLawfulPasses : SceneView → Type 0
HaveLawfulPasses scene = All (λ m. IsLawful m (need_of (layout_of scene))) (passes scene)

-- every operation that they can carry out takes a clock at least
abbrev pub HaveClocks : SceneView → Type 0
HaveClocks scene = (m : Macro) → IsLawful m (need_of (layout_of scene)) → 1 ≤ cycles_in scene m

pub record IsGoodProgram (scene : SceneView) : Type 0 where
  pub grid : IsGrid (columns_of scene) (rows_of scene)
  pub bits : need_of (layout_of scene) ≤ MAX_LAYOUT_BITS
  pub lawful : HaveLawfulPasses scene
  pub some : HaveClocks scene
  pub few : (m : Macro) → IsLawful m (need_of (layout_of scene)) → cycles_in scene m ≤ 82
  pub operations : length (passes scene) ≤ total scene
  pub clocks : total scene < 2 ^ 43

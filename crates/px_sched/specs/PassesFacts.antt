-- What holds of the passes of every scene: that they are lawful, and how many there can be. Clauses of public
-- calls stand on it.
use Rattle.std.specs.Prelude.{◌^◌, ◌≤◌, All, length}
use Rattle.px_macro.specs.Macros.{IsLawful}
use Rattle.px_prune.specs.Kept.{plan_of}
use Rattle.px_model.specs.Scenes.{IsLawfulScene, SceneView, IsLawfulSolid}
use Rattle.px_sched.specs.Layouts.{IsLayout, layout_of, need_of}
use Rattle.px_sched.specs.Passes.{operations, passes}
use Rattle.px_sched.specs.Steps.{IsStep}
use Rattle.px_sched.specs.declared.step.Step.{Step}
use Rattle.px_normal.specs.declared.product.TheConstants.{MAX_PRODUCTS}

abbrev pub LayoutsAreLawful : Type 0
LayoutsAreLawful = (scene : SceneView) → IsLawfulScene scene → IsLayout (layout_of scene)

-- pixels of as many bits as the layout needs can carry the passes out
abbrev pub PassesAreLawful : Type 0
PassesAreLawful = (scene : SceneView) → IsLawfulScene scene → All IsLawfulSolid scene.solids →
    All (λ m. IsLawful m (need_of (layout_of scene))) (passes scene)

-- and the operations of any step of the scene
abbrev pub StepsAreLawful : Type 0
StepsAreLawful = (scene : SceneView) → IsLawfulScene scene → All IsLawfulSolid scene.solids →
    (step : Step) → IsStep scene step →
    All (λ m. IsLawful m (need_of (layout_of scene))) (operations scene (layout_of scene) step)

abbrev pub PassesAreFew : Type 0
PassesAreFew = (scene : SceneView) → All IsLawfulSolid scene.solids →
    length (plan_of scene) ≤ MAX_PRODUCTS → length (passes scene) ≤ 2 ^ 43

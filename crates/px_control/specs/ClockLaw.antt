-- The clock bound: how many clocks a scene takes at most, and at least. Clauses of public calls stand on it.
use Rattle.std.specs.Prelude.{◌^◌, ◌<◌, ◌≤◌, All, length}
use Rattle.px_prune.specs.Kept.{plan_of}
use Rattle.px_model.specs.Scenes.{IsLawfulScene, SceneView, IsLawfulSolid}
use Rattle.px_sched.specs.Passes.{passes}
use Rattle.px_control.specs.Program.{total}
use Rattle.px_normal.specs.declared.product.TheConstants.{MAX_PRODUCTS}

-- a scene of at most `MAX_PRODUCTS` kept products takes less than 2 ^ 43 clocks
abbrev pub ClockBound : Type 0
ClockBound = (scene : SceneView) → IsLawfulScene scene → All IsLawfulSolid scene.solids
    → length (plan_of scene) ≤ MAX_PRODUCTS → total scene < 2 ^ 43

-- a scene takes at least a clock for each operation
abbrev pub EachTakesAClock : Type 0
EachTakesAClock = (scene : SceneView) → IsLawfulScene scene → length (passes scene) ≤ total scene

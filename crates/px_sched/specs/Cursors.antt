-- Where a cursor is in the passes of a scene. Clauses of public calls stand on it.
use Rattle.std.specs.Prelude.{◌≡◌, ◌^◌, ◌<◌, ◌≤◌, drop, length, IfSome}
use Rattle.std.specs.List.{flat_map}
use Rattle.px_prune.specs.Kept.{plan_of}
use Rattle.px_model.specs.Scenes.{SceneView}
use Rattle.px_sched.specs.declared.cursor.Cursor.{Cursor}
use Rattle.px_sched.specs.Layouts.{layout_of}
use Rattle.px_sched.specs.Groups.{IsStage, from_stage, step_of}
use Rattle.px_sched.specs.Passes.{operations, passes}

-- a cursor is in the passes of a scene where it has given as many of them as it counts: those that were not given
-- are the operations of the steps from its stage on, without as many as its place
pub record Stands (scene : SceneView) (cursor : Cursor) : Type 0 where
  pub stage : IsStage scene (plan_of scene) cursor.stage
  pub place : IfSome (step_of cursor.stage) (λ step. cursor.at < length (operations scene (layout_of scene) step))
  pub left : drop cursor.given (passes scene)
      ≡ drop cursor.at (flat_map (operations scene (layout_of scene)) (from_stage scene (plan_of scene) cursor.stage))
  pub within : cursor.given ≤ length (passes scene)
  pub few : length (passes scene) < 2 ^ 64

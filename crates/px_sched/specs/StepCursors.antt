-- Where a cursor is in the steps of a scene. Clauses of public calls stand on it.
use Rattle.std.specs.Prelude.{◌≡◌, ℕ, ◌^◌, ◌<◌, ⊤, Bool, true, false, List, drop, filter, length, take}
use Rattle.px_model.specs.Scenes.{SceneView}
use Rattle.px_prune.specs.Kept.{plan_of}
use Rattle.px_sched.specs.declared.step.Step.{Step}
use Rattle.px_sched.specs.declared.step.Step.TheVariants.{Open}
use Rattle.px_sched.specs.declared.step.Step.TheVariants.{Begin, Turn, Close}
use Rattle.px_sched.specs.declared.step_cursor.StepCursor.{StepCursor}
use Rattle.px_sched.specs.Groups.{IsStage, from_stage}
use Rattle.px_sched.specs.Passes.{steps}

-- the step is the first of a literal
abbrev pub opens_literal : Step → Bool
opens_literal Open = true
opens_literal other = false

-- how many literals have their first step among these
abbrev pub literals_in : List Step → ℕ
literals_in steps = length (filter opens_literal steps)

-- where a step asks another literal, there are at most so many
abbrev pub HasFewOthers : Step → Type 0
HasFewOthers (Begin other) = other < 512
HasFewOthers (Turn other solid face) = other < 512
HasFewOthers (Close other plain) = other < 512
HasFewOthers other = ⊤

-- a cursor is in the steps of a scene where it has given as many of them as it counts: those that were not given
-- are the steps from its stage on
pub record StandsAtStep (scene : SceneView) (cursor : StepCursor) : Type 0 where
  pub stage : IsStage scene (plan_of scene) cursor.stage
  pub left : drop cursor.given (steps scene) ≡ from_stage scene (plan_of scene) cursor.stage
  pub literals : cursor.literals ≡ literals_in (take cursor.given (steps scene))
  pub few : length (steps scene) < 2 ^ 64

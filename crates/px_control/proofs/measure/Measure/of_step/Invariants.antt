use Rattle.px_num.proofs.Basics.{◌≡◌, ℕ, ◌*◌, ◌≤◌, take, sum_by}
use Rattle.px_control.proofs.Words.{but_edges, layout_of, Measure, operations, SceneView, Step}
use Rattle.px_control.proofs.measure.Measure.of_step.Given as goal

-- what the first operations come to
pub record AreCounted (sum : ℕ) (scene : SceneView) (measure : Measure) (step : Step) (count : ℕ) : Type 0 where
  pub counted : sum ≡ sum_by (but_edges scene measure) (take count (operations scene (layout_of scene) step))
  pub few : sum ≤ count * 82

abbrev pub invariant-loop-at : goal.invariant-loop-at
invariant-loop-at l = AreCounted l.sum l.scene l.self l.step l.at

use Rattle.px_control.proofs.CostLemmas.{first_face}
use Rattle.px_control.proofs.rates.Rates.of.Goals as goal

pub of_step-candidate-requires-clause-step : goal.of_step-candidate-requires-clause-step
of_step-candidate-requires-clause-step c = first_face c.args.scene.now c.laws_of_scenes.ensures.scene

pub of_step-drop-requires-clause-step : goal.of_step-drop-requires-clause-step
of_step-drop-requires-clause-step c = first_face c.args.scene.now c.laws_of_scenes.ensures.scene

pub of_step-front-requires-clause-step : goal.of_step-front-requires-clause-step
of_step-front-requires-clause-step c = first_face c.args.scene.now c.laws_of_scenes.ensures.scene

pub of_step-turn-requires-clause-step : goal.of_step-turn-requires-clause-step
of_step-turn-requires-clause-step c = first_face c.args.scene.now c.laws_of_scenes.ensures.scene

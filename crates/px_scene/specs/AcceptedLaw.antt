-- The scene of a text that is accepted. Clauses of public calls stand on it.
use Rattle.std.specs.Prelude.{◌≡◌, ℕ, All, List, None}
use Rattle.px_model.specs.Scenes.{IsLawfulScene, IsLawfulSolid, SceneView}
use Rattle.px_scene.specs.Reading.{refusal_of, scene_of}
use Rattle.px_text.specs.Text.{worded}

-- a lawful scene of lawful solids
pub record IsWhollyLawful (scene : SceneView) : Type 0 where
  pub scene_is : IsLawfulScene scene
  pub solids : All IsLawfulSolid scene.solids

abbrev pub AcceptedIsLawful : Type 0
AcceptedIsLawful = (text : List ℕ) → refusal_of text ≡ None → IsWhollyLawful (scene_of (worded text))

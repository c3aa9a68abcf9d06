-- What every scene keeps, of which the canonical text is read as it. Clauses of public calls stand on it.
use Rattle.std.specs.Prelude.{◌≡◌, ℕ, List, All, None}
use Rattle.px_expr.specs.Tree.{IsLawfulTree}
use Rattle.px_text.specs.Text.{worded}
use Rattle.px_scene.specs.Reading.{scene_of, refusal_of}
use Rattle.px_model.specs.Scenes.{IsLawfulSolid, SceneView, IsLawfulScene}

pub record IsWritable (scene : SceneView) : Type 0 where
  pub lawful : IsLawfulScene scene
  pub solids : All IsLawfulSolid scene.solids
  pub show : IsLawfulTree scene.show

-- a text that is not refused, and whose scene is this one
pub record IsReadAs (text : List ℕ) (scene : SceneView) : Type 0 where
  pub good : refusal_of text ≡ None
  pub read : scene_of (worded text) ≡ scene

-- The picture theorem: what the two maps of an accepted text's scene show, and which scenes an array draws.
-- Clauses of public calls stand on it.
use Rattle.std.specs.Prelude.{ℕ, ◌≡◌, ◌≤◌, ◌⊎◌, ◌++◌, List, None, length}
use Rattle.px_model.specs.Scenes.{SceneView}
use Rattle.px_model.specs.Cells.{Sight}
use Rattle.px_face.specs.Seen.{ShowsBackgroundAlone, ShowsFirstCell}
use Rattle.px_frame.specs.Picture.{depth_image, face_image, image_of}
use Rattle.px_normal.specs.CrowdLaw.{HasNoDiffer}
use Rattle.px_normal.specs.Forms.{sum_of_products}
use Rattle.px_normal.specs.declared.product.TheConstants.{MAX_PRODUCTS}
use Rattle.px_scene.specs.Text.{worded}
use Rattle.px_scene.specs.Reading.{refusal_of, scene_of}
use Rattle.px_sched.specs.Layouts.{layout_of, need_of}
use Rattle.px_frame.specs.Refusals.{job_refusal}

-- two pixel maps: at each pixel the depth of its first cell that belongs to the scene's expression, and the
-- lowest-numbered face shown there; the background where no cell belongs
pub record AreMapsOf (scene : SceneView) (maps : List ℕ) : Type 0 where
  pub sights : (x y : ℕ) → Sight
  pub written : maps ≡ image_of scene.width scene.height (λ x y. (sights x y).depth)
      ++ image_of scene.width scene.height (λ x y. (sights x y).face)
  pub shown : (x y : ℕ) → ShowsFirstCell scene x y (sights x y) ⊎ ShowsBackgroundAlone scene x y (sights x y)

-- the images of the scene that a text says are its maps
abbrev pub TextsHavePictures : Type 0
TextsHavePictures = (text : List ℕ) → refusal_of text ≡ None →
    AreMapsOf (scene_of (worded text)) (depth_image (scene_of (worded text)) ++ face_image (scene_of (worded text)))

-- an array draws a scene whose passes need no more memory bits than a pixel has, and whose expression has no "^"
-- and at most so many products in its whole sum
abbrev pub SmallScenesAreDrawn : Type 0
SmallScenesAreDrawn = (bits : ℕ) (scene : SceneView) → need_of (layout_of scene) ≤ bits → HasNoDiffer scene.show →
    length (sum_of_products scene.show) ≤ MAX_PRODUCTS → job_refusal bits scene ≡ None

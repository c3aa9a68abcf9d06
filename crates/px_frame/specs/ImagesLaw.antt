-- The images of an array that stores the picture of a scene are the images of that picture. Clauses of public
-- calls stand on it.
use Rattle.std.specs.Prelude.{◌≡◌, ℕ, ◌<◌, ◌≤◌}
use Rattle.px_array.specs.Arrays.{State, pixel_of}
use Rattle.px_model.specs.Scenes.{IsLawfulScene, SceneView, faces_of}
use Rattle.px_sched.specs.Layouts.{LayoutView}
use Rattle.px_sched.specs.PassesLaw.{ShowsThePicture}
use Rattle.px_frame.specs.declared.plane.Plane.{Plane}
use Rattle.px_frame.specs.Images.{picture_image}
use Rattle.px_frame.specs.Stored.{stored_face, stored_image}

abbrev pub ImagesShowThePicture : Type 0
ImagesShowThePicture = (scene : SceneView) (layout : LayoutView) (state : State) (plane : Plane) →
    ShowsThePicture scene layout (λ x y. (pixel_of state x y).memory) → stored_image scene layout state plane
    ≡ picture_image scene plane

-- the face number that each pixel of the picture stores is one of the scene's, or 0
abbrev pub FacesAreOfTheScene : Type 0
FacesAreOfTheScene = (scene : SceneView) (layout : LayoutView) (state : State) → IsLawfulScene scene →
    ShowsThePicture scene layout (λ x y. (pixel_of state x y).memory) →
    (x y : ℕ) → x < scene.width → y < scene.height → stored_face layout state x y ≤ faces_of scene.solids

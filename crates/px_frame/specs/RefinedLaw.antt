-- The means over the picture of the finer scene. Clauses of public calls stand on it.
use Rattle.std.specs.Prelude.{◌≡◌, ℕ}
use Rattle.px_array.specs.Arrays.{State, pixel_of}
use Rattle.px_model.specs.Scenes.{SceneView}
use Rattle.px_sched.specs.Layouts.{LayoutView}
use Rattle.px_sched.specs.PassesLaw.{ShowsThePicture}
use Rattle.px_frame.specs.Finer.{fine_scene}
use Rattle.px_frame.specs.Picture.{colour_at}
use Rattle.px_frame.specs.Refined.{image_of_means, refined_image}
use Rattle.px_frame.specs.Stored.{stored_colour}

-- the image of means over the picture of the finer scene is the refined image of the scene
abbrev pub MeansAreRefined : Type 0
MeansAreRefined = (s : ℕ) (scene : SceneView) →
    image_of_means s (fine_scene s scene) (colour_at (fine_scene s scene)) ≡ refined_image s scene

-- and so is that over an array that stores this picture
abbrev pub StoredMeansAreRefined : Type 0
StoredMeansAreRefined = (s : ℕ) (scene : SceneView) (layout : LayoutView) (state : State) →
    ShowsThePicture (fine_scene s scene) layout (λ x y. (pixel_of state x y).memory) →
    image_of_means s (fine_scene s scene) (stored_colour (fine_scene s scene) layout state) ≡ refined_image s scene

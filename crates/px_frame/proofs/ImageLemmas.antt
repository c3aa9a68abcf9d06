-- The images of an array that stores a picture.
use Rattle.std.proofs.Common.{rules}
use Rattle.px_num.proofs.Basics.{◌≡◌, ℕ, ◌+◌, ◌*◌, ◌/◌, ◌^◌, ap, arith, mul-div-le}
use Rattle.px_frame.proofs.Words.{depth_at, face_at, LayoutView, picture_image, pixel_of, Plane, SceneView, State}
use Rattle.px_frame.proofs.Words.{stored_depth, stored_face, stored_image}
use Rattle.px_face.proofs.BackgroundLemmas.{shows_faces}
use Rattle.px_face.proofs.SurfaceLemmas.{scene_surface}
use Rattle.px_model.specs.Scenes.{colour_in_scene}
use Rattle.px_sched.specs.PassesLaw.{ShowsThePicture}
use Rattle.px_frame.specs.Picture.{colour_at}
use Rattle.px_frame.specs.ImagesLaw.{FacesAreOfTheScene}
use Rattle.px_frame.specs.Refined.{doublings, image_of_means, mean_pixel}
use Rattle.px_frame.specs.RefinedLaw.{StoredMeansAreRefined}
use Rattle.px_frame.specs.Stored.{stored_colour}
use Rattle.px_frame.proofs.MeanLemmas.{in_block, means_refined, pixel_same}
use Rattle.px_frame.proofs.RowLaws.{same_image, same_pixels}
use Rattle.px_frame.specs.declared.plane.Plane.TheVariants as p

means_show : (s : ℕ) (scene : SceneView) (layout : LayoutView) (state : State)
    → ShowsThePicture scene layout (λ x y. (pixel_of state x y).memory)
    → image_of_means s scene (stored_colour scene layout state) ≡ image_of_means s scene (colour_at scene)
means_show s scene layout state shows =
    same_pixels (scene.width / 2 ^ s) (scene.height / 2 ^ s) (mean_pixel s (stored_colour scene layout state))
    (mean_pixel s (colour_at scene))
    (λ x y left above. pixel_same s x y (stored_colour scene layout state) (colour_at scene)
    (λ i j p q. ap (colour_in_scene scene.solids) ((shows (2 ^ s * x + i) (2 ^ s * y + j)
    (omega (arith, in_block (2 ^ s) x (scene.width / 2 ^ s) i left p, mul-div-le scene.width (2 ^ s)))
    (omega (arith, in_block (2 ^ s) y (scene.height / 2 ^ s) j above q, mul-div-le scene.height (2 ^ s)))).face)))

pub images_show : (scene : SceneView) (layout : LayoutView) (state : State) (plane : Plane)
    → ShowsThePicture scene layout (λ x y. (pixel_of state x y).memory) → stored_image scene layout state plane
    ≡ picture_image scene plane
images_show scene layout state p.Depth shows = grind (arith, same_image, stored_depth, depth_at)
images_show scene layout state p.Face shows = grind (arith, same_image, stored_face, face_at)
images_show scene layout state p.Colour shows = grind (arith, same_pixels)
images_show scene layout state (p.Means fineness) shows = means_show (doublings fineness) scene layout state shows

pub faces_stored : FacesAreOfTheScene
faces_stored scene layout state lawful shows x y left above = grind (arith, shows_faces, scene_surface)

pub stored_refined : StoredMeansAreRefined
stored_refined s scene layout state shows = search (rules, means_show, means_refined)

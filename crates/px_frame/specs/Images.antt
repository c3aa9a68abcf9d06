-- The images of a scene. Clauses of public calls stand on it.
use Rattle.std.specs.Prelude.{ℕ, List}
use Rattle.std.specs.List.{flat_map}
use Rattle.px_model.specs.Scenes.{SceneView}
use Rattle.px_frame.specs.Picture.{colour_at, colour_image, depth_image, face_image}
use Rattle.px_frame.specs.Refined.{doublings, image_of_means}
use Rattle.px_frame.specs.declared.plane.Plane.{Plane}
use Rattle.px_frame.specs.declared.plane.Plane.TheVariants as p

abbrev pub picture_image : SceneView → Plane → List ℕ
picture_image scene p.Depth = depth_image scene
picture_image scene p.Face = face_image scene
picture_image scene p.Colour = colour_image scene
picture_image scene (p.Means fineness) = image_of_means (doublings fineness) scene (colour_at scene)

-- images of a scene, one after another
abbrev pub images : SceneView → List Plane → List ℕ
images scene planes = flat_map (picture_image scene) planes

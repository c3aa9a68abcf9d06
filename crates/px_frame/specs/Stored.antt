-- The images of what an array stores: numbers in a field of each pixel of the picture, as the depth and the face
-- number in key B. Clauses of public calls stand on it.
use Rattle.std.specs.Prelude.{ℕ, ◌/◌, ◌^◌, ◌≤◌, List}
use Rattle.px_array.specs.Arrays.{State, pixel_of}
use Rattle.px_macro.specs.Fields.{number_in}
use Rattle.px_macro.specs.declared.field.Field.{Field}
use Rattle.px_model.specs.declared.solid.Colour.{Colour}
use Rattle.px_model.specs.Scenes.{SceneView, colour_in_scene}
use Rattle.px_sched.specs.Layouts.{LayoutView, depth_part, number_part}
use Rattle.px_frame.specs.declared.plane.Plane.{Plane}
use Rattle.px_frame.specs.declared.plane.Plane.TheVariants as p
use Rattle.px_frame.specs.Picture.{colour_pixel, image_of_pixels, number_pixel}
use Rattle.px_frame.specs.Refined.{doublings, mean_pixel}

abbrev pub stored_number : Field → State → (x y : ℕ) → ℕ
stored_number field state x y = number_in field (pixel_of state x y).memory

abbrev pub stored_depth : LayoutView → State → (x y : ℕ) → ℕ
stored_depth layout state = stored_number (depth_part layout layout.key_b) state

abbrev pub stored_face : LayoutView → State → (x y : ℕ) → ℕ
stored_face layout state = stored_number (number_part layout layout.key_b) state

-- the colour of the face that is stored
abbrev pub stored_colour : SceneView → LayoutView → State → (x y : ℕ) → Colour
stored_colour scene layout state x y = colour_in_scene scene.solids (stored_face layout state x y)

-- where a pixel stores the number that an image shows
abbrev pub field_shown : LayoutView → Plane → Field
field_shown layout p.Depth = depth_part layout layout.key_b
field_shown layout p.Face = number_part layout layout.key_b
field_shown layout p.Colour = number_part layout layout.key_b
field_shown layout (p.Means fineness) = number_part layout layout.key_b

-- how often a side of the pixel of an image is halved to be that of a pixel of the picture
abbrev pub doublings_of : Plane → ℕ
doublings_of p.Depth = 0
doublings_of p.Face = 0
doublings_of p.Colour = 0
doublings_of (p.Means fineness) = doublings fineness

-- how many pixels an image has along a side of so many pixels of the picture
abbrev pub side_shown : Plane → ℕ → ℕ
side_shown p.Depth side = side
side_shown p.Face side = side
side_shown p.Colour side = side
side_shown (p.Means fineness) side = side / 2 ^ doublings fineness

-- the pixels of an image of these numbers
abbrev pub shown_pixel : SceneView → Plane → (number : (x y : ℕ) → ℕ) → (x y : ℕ) → List ℕ
shown_pixel scene p.Depth number = number_pixel number
shown_pixel scene p.Face number = number_pixel number
shown_pixel scene p.Colour number = colour_pixel (λ x y. colour_in_scene scene.solids (number x y))
shown_pixel scene (p.Means fineness) number =
    mean_pixel (doublings fineness) (λ x y. colour_in_scene scene.solids (number x y))

-- the image of the numbers that the pixels of the picture store in a field
abbrev pub field_image : SceneView → Field → State → Plane → List ℕ
field_image scene field state plane =
    image_of_pixels (side_shown plane scene.width) (side_shown plane scene.height)
    (shown_pixel scene plane (stored_number field state))

abbrev pub stored_image : SceneView → LayoutView → State → Plane → List ℕ
stored_image scene layout state plane = field_image scene (field_shown layout plane) state plane

-- the grid has the columns of the picture, and its rows
abbrev pub HasColumns : SceneView → State → Type 0
HasColumns scene state = scene.width ≤ 2 ^ state.tree.nx

abbrev pub HasRows : SceneView → State → Type 0
HasRows scene state = scene.height ≤ 2 ^ state.tree.ny

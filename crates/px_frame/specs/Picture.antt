-- The picture of a scene as three images in the raw form of Netpbm's pixel maps: the depth of each pixel, the
-- number of its face, and that face's colour. Clauses of public calls stand on it.
use Rattle.std.specs.Prelude.{ℕ, ◌/◌, ◌%◌, List, [], ◌∷◌, ◌++◌, codes, decimal}
use Rattle.std.specs.List.{flat_map, range_with_len}
use Rattle.px_model.specs.declared.solid.Colour.{Colour}
use Rattle.px_model.specs.Scenes.{SceneView, colour_in_scene}
use Rattle.px_model.specs.Cells.{picture}

-- the three lines before the pixels
unfoldable pub header : (width height : ℕ) → List ℕ
header width height =
    codes "P6\n" ++ decimal width ++ codes " " ++ decimal height ++ codes "\n255\n"

-- a number below 2 ^ 24 as one pixel, its highest byte first
unfoldable pub three_bytes : (number : ℕ) → List ℕ
three_bytes number = number / 65536 ∷ number / 256 % 256 ∷ number % 256 ∷ []

abbrev pub colour_bytes : Colour → List ℕ
colour_bytes c = c.red ∷ c.green ∷ c.blue ∷ []

-- one row of pixels that have these bytes at each (x, y), from the left
abbrev pub row_of_pixels : (width : ℕ) → (pixel : (x y : ℕ) → List ℕ) → (y : ℕ) → List ℕ
row_of_pixels width pixel y = flat_map (λ x. pixel x y) (range_with_len 0 width)

-- the image of a picture that has these bytes at each pixel (x, y): the rows from the top
abbrev pub image_of_pixels : (width height : ℕ) → (pixel : (x y : ℕ) → List ℕ) → List ℕ
image_of_pixels width height pixel =
    header width height ++ flat_map (row_of_pixels width pixel) (range_with_len 0 height)

-- the pixels of a number at each (x, y), and of a colour
abbrev pub number_pixel : (number : (x y : ℕ) → ℕ) → (x y : ℕ) → List ℕ
number_pixel number x y = three_bytes (number x y)

abbrev pub colour_pixel : (colour : (x y : ℕ) → Colour) → (x y : ℕ) → List ℕ
colour_pixel colour x y = colour_bytes (colour x y)

-- the image of a picture that has this number at each (x, y)
abbrev pub image_of : (width height : ℕ) → (number : (x y : ℕ) → ℕ) → List ℕ
image_of width height number = image_of_pixels width height (number_pixel number)

-- the depth that a pixel of the picture shows
abbrev pub depth_at : SceneView → (x y : ℕ) → ℕ
depth_at scene x y = (picture scene x y).depth

-- the number of the face that it shows
abbrev pub face_at : SceneView → (x y : ℕ) → ℕ
face_at scene x y = (picture scene x y).face

abbrev pub colour_at : SceneView → (x y : ℕ) → Colour
colour_at scene x y = colour_in_scene scene.solids (face_at scene x y)

-- the image of the depths
abbrev pub depth_image : SceneView → List ℕ
depth_image scene = image_of scene.width scene.height (depth_at scene)

-- the image of the face numbers
abbrev pub face_image : SceneView → List ℕ
face_image scene = image_of scene.width scene.height (face_at scene)

abbrev pub colour_image : SceneView → List ℕ
colour_image scene = image_of_pixels scene.width scene.height (colour_pixel (colour_at scene))

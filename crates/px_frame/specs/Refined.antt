-- The refined image: each sample is the mean of that sample over finer pixels, rounded down. Clauses of public
-- calls stand on it.
use Rattle.std.specs.Prelude.{ℕ, ◌+◌, ◌*◌, ◌/◌, ◌^◌, List, sum_by}
use Rattle.std.specs.List.{range_with_len}
use Rattle.px_model.specs.declared.solid.Colour.{Colour}
use Rattle.px_model.specs.Scenes.{SceneView}
use Rattle.px_frame.specs.Picture.{colour_bytes, image_of_pixels, colour_at}
use Rattle.px_frame.specs.Finer.{fine_scene}
use Rattle.px_frame.specs.declared.plane.Fineness.{Fineness}
use Rattle.px_frame.specs.declared.plane.Fineness.TheVariants as f

-- how often the pixels on each side are doubled
abbrev pub doublings : Fineness → ℕ
doublings f.Two = 1
doublings f.Four = 2

-- the sum of a sample over the 2^s by 2^s finer pixels that the pixel (x, y) is cut into
abbrev pub block_sum : (s : ℕ) → (sample : (x y : ℕ) → ℕ) → (x y : ℕ) → ℕ
block_sum s sample x y =
    sum_by (λ j. sum_by (λ i. sample (2 ^ s * x + i) (2 ^ s * y + j)) (range_with_len 0 (2 ^ s)))
    (range_with_len 0 (2 ^ s))

abbrev pub mean : (s : ℕ) → (sample : (x y : ℕ) → ℕ) → (x y : ℕ) → ℕ
mean s sample x y = block_sum s sample x y / (2 ^ s * 2 ^ s)

-- each sample by itself
abbrev pub mean_colour : (s : ℕ) → (colour : (x y : ℕ) → Colour) → (x y : ℕ) → Colour
mean_colour s colour x y = record {
  red = mean s (λ i j. (colour i j).red) x y;
  green = mean s (λ i j. (colour i j).green) x y;
  blue = mean s (λ i j. (colour i j).blue) x y;
}

abbrev pub mean_pixel : (s : ℕ) → (colour : (x y : ℕ) → Colour) → (x y : ℕ) → List ℕ
mean_pixel s colour x y = colour_bytes (mean_colour s colour x y)

-- the image of so many pixels, whose finer pixels have these colours
abbrev pub mean_image : (s width height : ℕ) → (colour : (x y : ℕ) → Colour) → List ℕ
mean_image s width height colour = image_of_pixels width height (mean_pixel s colour)

-- an image of means over the pixels of a scene's picture, which have these colours
abbrev pub image_of_means : (s : ℕ) → SceneView → (colour : (x y : ℕ) → Colour) → List ℕ
image_of_means s scene colour = mean_image s (scene.width / 2 ^ s) (scene.height / 2 ^ s) colour

-- an image of the scene's own size, of means over the picture of the finer scene
abbrev pub refined_image : (s : ℕ) → SceneView → List ℕ
refined_image s scene = mean_image s scene.width scene.height (colour_at (fine_scene s scene))

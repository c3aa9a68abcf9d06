-- Sums of samples as they are taken, row by row. Only proofs and private functions stand on it.
use Rattle.std.specs.Prelude.{◌≡◌, ℕ, ◌+◌, ◌*◌, ◌/◌, ◌^◌, ◌<◌, ◌≤◌, List, length, sum_by}
use Rattle.std.specs.List.{range_with_len}
use Rattle.px_model.specs.declared.limits.TheConstants.{MAX_PICTURE_SIZE}
use Rattle.px_model.specs.declared.solid.Colour.{Colour}
use Rattle.px_model.specs.Scenes.{SceneView, colour_in_scene}
use Rattle.px_frame.specs.Stored.{doublings_of}
use Rattle.px_frame.specs.Strips.{strip_number}
use Rattle.px_frame.specs.declared.plane.Plane.{Plane}
use Rattle.px_frame.specs.declared.mean_sums.Sums.{Sums}

abbrev pub no_sums : Sums
no_sums = record { red = 0; green = 0; blue = 0 }

abbrev pub with_colour : Sums → Colour → Sums
with_colour sums colour = record {
  red = sums.red + colour.red;
  green = sums.green + colour.green;
  blue = sums.blue + colour.blue;
}

abbrev pub together : Sums → Sums → Sums
together sums more = record {
  red = sums.red + more.red;
  green = sums.green + more.green;
  blue = sums.blue + more.blue;
}

-- over so many pixels of row y, from one of them to the right
abbrev pub row_sums : (colour : (x y : ℕ) → Colour) → (from y count : ℕ) → Sums
row_sums colour from y count = record {
  red = sum_by (λ i. (colour (from + i) y).red) (range_with_len 0 count);
  green = sum_by (λ i. (colour (from + i) y).green) (range_with_len 0 count);
  blue = sum_by (λ i. (colour (from + i) y).blue) (range_with_len 0 count);
}

-- over so many rows, from one of them down, of so many pixels each
abbrev pub block_sums : (colour : (x y : ℕ) → Colour) → (across from top count : ℕ) → Sums
block_sums colour across from top count = record {
  red = sum_by (λ j. (row_sums colour from (top + j) across).red) (range_with_len 0 count);
  green = sum_by (λ j. (row_sums colour from (top + j) across).green) (range_with_len 0 count);
  blue = sum_by (λ j. (row_sums colour from (top + j) across).blue) (range_with_len 0 count);
}

-- over the 2^s by 2^s pixels of a block
abbrev pub mean_of : (s : ℕ) → Sums → Colour
mean_of s sums = record {
  red = sums.red / (2 ^ s * 2 ^ s);
  green = sums.green / (2 ^ s * 2 ^ s);
  blue = sums.blue / (2 ^ s * 2 ^ s);
}

pub record AreSumsAtMost (n : ℕ) (sums : Sums) : Type 0 where
  pub red : sums.red ≤ n
  pub green : sums.green ≤ n
  pub blue : sums.blue ≤ n

-- the colour of the face that a strip has at a pixel
abbrev pub strip_colour : SceneView → List ℕ → (x y : ℕ) → Colour
strip_colour scene strip x y = colour_in_scene scene.solids (strip_number strip x y)

-- a strip has the columns of a scene's picture, whose sides are within their limit
pub record FitsPicture (scene : SceneView) (strip : List ℕ) : Type 0 where
  pub wide : scene.width ≤ MAX_PICTURE_SIZE
  pub most : scene.height ≤ MAX_PICTURE_SIZE
  pub columns : length strip ≡ 8 * scene.width

-- so has one whose numbers an image can show, in the rows of its row y
pub record HoldsShown (scene : SceneView) (plane : Plane) (strip : List ℕ) (y : ℕ) : Type 0 where
  pub fits : FitsPicture scene strip
  pub high : 2 ^ doublings_of plane * y + 2 ^ doublings_of plane ≤ scene.height
  pub small : (x row : ℕ) → x < scene.width → strip_number strip x row < 2 ^ 24

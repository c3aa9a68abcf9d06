-- What a call leaves in a caller's buffer. Clauses of public calls stand on it.
use Rattle.std.specs.Prelude.{◌≡◌, ℕ, ℤ, ◌+◌, ◌*◌, ◌<◌, ◌≤◌, List, ◌++◌, drop, length, slice_index_or}
use Rattle.px_model.specs.declared.solid.Colour.{Colour}

-- the number of each pixel (x, y) of a picture, the rows from the top and each from the left; what lies behind
-- them is as before
pub record HoldsNumbers (width height : ℕ) (number : (x y : ℕ) → ℕ) (before now : List ℕ) : Type 0 where
  pub pixels : (x y : ℕ) → x < width → y < height → slice_index_or now (y * width + x) 0 ≡ number x y
  pub rest : (i : ℕ) → width * height ≤ i → slice_index_or now i 0 ≡ slice_index_or before i 0

-- three bytes from a place on are a colour: red, green and blue
pub record HasColour (bytes : List ℕ) (at : ℕ) (colour : Colour) : Type 0 where
  pub red : slice_index_or bytes at 0 ≡ colour.red
  pub green : slice_index_or bytes (at + 1) 0 ≡ colour.green
  pub blue : slice_index_or bytes (at + 2) 0 ≡ colour.blue

-- the colour of each pixel, in the same order; what lies behind them is as before
pub record HoldsColours (width height : ℕ) (colour : (x y : ℕ) → Colour) (before now : List ℕ) : Type 0 where
  pub pixels : (x y : ℕ) → x < width → y < height → HasColour now (3 * (y * width + x)) (colour x y)
  pub rest : (i : ℕ) → 3 * (width * height) ≤ i → slice_index_or now i 0 ≡ slice_index_or before i 0

-- numbers at the front; what lies behind them is as before
abbrev pub HoldsFront : (numbers before now : List ℤ) → Type 0
HoldsFront numbers before now = now ≡ numbers ++ drop (length numbers) before

-- bytes at the front; what lies behind them is as before
abbrev pub HoldsBytes : (bytes before now : List ℕ) → Type 0
HoldsBytes bytes before now = now ≡ bytes ++ drop (length bytes) before

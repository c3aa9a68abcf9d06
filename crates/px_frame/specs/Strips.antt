-- What a contract sees of a strip: the numbers that the pixels of eight rows store in a field. Clauses of
-- public calls stand on it.
use Rattle.std.specs.Prelude.{◌≡◌, ℕ, ◌+◌, ◌*◌, ◌/◌, ◌%◌, ◌^◌, ◌<◌, ◌≤◌, List, length, get_or}
use Rattle.px_array.specs.Arrays.{Device, IsOpen, State, pixel_of}
use Rattle.px_macro.specs.Fields.{number_in}
use Rattle.px_macro.specs.declared.field.Field.{Field}
use Rattle.px_model.specs.declared.limits.TheConstants.{MAX_PICTURE_SIZE}

-- an open array has so many columns and row y, and room for a field of at most 24 bits
pub record HasNumbers (bits : ℕ) (device : Device) (field : Field) (width y : ℕ) : Type 0 where
  pub is_open : IsOpen device
  pub columns : width ≤ 2 ^ device.state.tree.nx
  pub wide : width ≤ MAX_PICTURE_SIZE
  pub row : y < 2 ^ device.state.tree.ny
  pub room : field.at + field.len ≤ bits
  pub low : field.at ≤ 256
  pub few : field.len ≤ 24

-- the number of the pixel in column x and row y, which the eight rows have
abbrev pub strip_number : List ℕ → (x y : ℕ) → ℕ
strip_number strip x y = get_or strip (8 * x + y % 8) 0

-- a strip has the numbers of so many columns in the eight rows that row y is one of
pub record HoldsRow (strip : List ℕ) (field : Field) (state : State) (width y : ℕ) : Type 0 where
  pub long : length strip ≡ 8 * width
  pub each : (x row : ℕ) → x < width → row / 8 ≡ y / 8 → row < 2 ^ state.tree.ny → strip_number strip x row
      ≡ number_in field (pixel_of state x row).memory
  pub small : (x row : ℕ) → x < width → strip_number strip x row < 2 ^ 24

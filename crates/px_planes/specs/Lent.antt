-- What the rows of registers that a grid lends hold. Clauses of public calls stand on it.
use Rattle.std.specs.Prelude.{◌≡◌, ℕ, ◌*◌, ◌^◌, ◌<◌, ◌≤◌, Bool, List, length}
use Rattle.px_array.specs.Arrays.{State, levels_of, pixel_at}
use Rattle.px_array.specs.Pixels.{PixelState}
use Rattle.px_rows.specs.Rows.{row_bit}

-- a register of each pixel, by their places
pub record IsRegister (s : State) (register : PixelState → Bool) (row : List ℕ) : Type 0 where
  pub words : 2 ^ levels_of s.tree ≤ 64 * length row
  pub each : (p : ℕ) → p < 2 ^ levels_of s.tree → row_bit row p ≡ register (pixel_at s p)

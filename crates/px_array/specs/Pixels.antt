-- What a contract sees of a pixel. Clauses of public calls stand on it.
use Rattle.std.specs.Prelude.{ℕ, Bool, false, List, replicate}

-- the memory bits of a pixel, and its three registers
pub record PixelState : Type 0 where
  pub memory : List Bool
  pub enable : Bool
  pub carry : Bool
  pub latch : Bool

-- a pixel of so many bits, all of it 0
abbrev pub zero_pixel : ℕ → PixelState
zero_pixel bits = record { memory = replicate bits false; enable = false; carry = false; latch = false }

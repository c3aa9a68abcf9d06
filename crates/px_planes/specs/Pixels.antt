-- Bit planes: their rows as the pixels of an array. Only proofs and private functions stand on it.
use Rattle.std.specs.Prelude.{◌≡◌, ℕ, ◌*◌, ◌%◌, ◌<◌, ◌≤◌, ◌&&◌, Bool, nat_lt, List, [], length, map, replicate}
use Rattle.std.specs.Prelude.{slice_index_or}
use Rattle.px_num.specs.Bits.{nat_bit}
use Rattle.px_num.specs.Lists.{tabulate}
use Rattle.px_array.specs.Acts.{after_act}
use Rattle.px_array.specs.Pixels.{PixelState, zero_pixel}
use Rattle.px_array.specs.declared.act.Act.{Act}
use Rattle.px_array.specs.declared.act.Act.TheVariants.{EnableAll, SetCarry}
use Rattle.px_rows.specs.Rows.{row_bit, words_for}
use Rattle.px_planes.specs.declared.planes.Planes.{Planes}

-- the pixel at a place: one bit of each row
abbrev pub pixel_in : Planes → ℕ → PixelState
pixel_in planes p = record {
  memory = map (λ row. row_bit row p) planes.memory.items;
  enable = row_bit planes.enable p;
  carry = row_bit planes.carry p;
  latch = row_bit planes.latch p;
}

-- so many pixels
abbrev pub pixels_in : ℕ → Planes → List PixelState
pixels_in count planes = tabulate count (pixel_in planes)

-- each row has n words
pub record HasWords (n : ℕ) (planes : Planes) : Type 0 where
  pub memory : (at : ℕ) → at < length planes.memory.items → length (slice_index_or planes.memory.items at []) ≡ n
  pub enable : length planes.enable ≡ n
  pub carry : length planes.carry ≡ n
  pub latch : length planes.latch ≡ n

-- rows of 0
pub record IsZero (bits words mask : ℕ) (planes : Planes) : Type 0 where
  pub memory : planes.memory.items ≡ replicate bits (replicate words 0)
  pub enable : planes.enable ≡ replicate words 0
  pub carry : planes.carry ≡ replicate words 0
  pub latch : planes.latch ≡ replicate words 0
  pub full : planes.full ≡ mask

-- what an act leaves at a place, inside the grid or in the padding past it, where it sets nothing
abbrev pub acted_at : (inside : Bool) → Act → Bool → PixelState → PixelState
acted_at inside EnableAll t p = record p { enable = inside }
acted_at inside (SetCarry v) t p = record p { carry = v && inside }
acted_at inside act t p = after_act act t p

-- what an act leaves of the bit of every row, at each place by its leaf's
pub record IsActed (act : Act) (leaves : List ℕ) (old new : Planes) : Type 0 where
  pub each : (p : ℕ) → p < 64 * length leaves → pixel_in new p ≡ acted_at (nat_bit old.full (p % 64)) act
      (row_bit leaves p) (pixel_in old p)
  pub words : HasWords (length leaves) new
  pub memory : length new.memory.items ≡ length old.memory.items
  pub full : new.full ≡ old.full

-- the rows hold n pixels of so many memory bits, and 0 past the last
pub record HasPixels (bits n : ℕ) (planes : Planes) : Type 0 where
  pub words : HasWords (words_for n) planes
  pub memory : length planes.memory.items ≡ bits
  pub full : (p : ℕ) → p < 64 * words_for n → nat_bit planes.full (p % 64) ≡ nat_lt p n
  pub padding : (p : ℕ) → n ≤ p → p < 64 * words_for n → pixel_in planes p ≡ zero_pixel bits

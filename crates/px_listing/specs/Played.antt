-- A listing played on zeros: what its operations, one after another, leave of a pixel of which every bit is 0.
-- Clauses of public calls stand on it.
use Rattle.std.specs.Prelude.{◌≡◌, ℕ, ◌^◌, ◌<◌, false, replicate}
use Rattle.px_array.specs.Arrays.{Device, State, opened, pixel_of}
use Rattle.px_array.specs.Clocks.{all_clocked}
use Rattle.px_asm.specs.Micros.{all_micros}
use Rattle.px_asm.specs.Microprograms.{bits_of}
use Rattle.px_macro.specs.Macros.{PixelBits, after_macros}
use Rattle.px_listing.specs.Listings.{ListingView}

-- the memory and the enable register of a pixel in which nothing is set
abbrev pub zero_bits : (bits : ℕ) → PixelBits
zero_bits bits = record { memory = replicate bits false; enable = false }

-- what the operations of a listing mean on pixel (x, y) of zeros, of so many memory bits
abbrev pub played : (bits : ℕ) → ListingView → (x y : ℕ) → PixelBits
played bits l x y = after_macros l.macros x y (zero_bits bits)

-- a new array after the micros of the listing's operations, one after another
abbrev pub played_on : (bits : ℕ) → ListingView → Device
played_on bits l = all_clocked (all_micros l.macros l.nx l.ny) (opened bits l.nx l.ny)

-- each pixel of the listing's grid has what is played there
abbrev pub HasPlayed : (bits : ℕ) → ListingView → State → Type 0
HasPlayed bits l state = (x y : ℕ) → x < 2 ^ l.nx → y < 2 ^ l.ny → bits_of (pixel_of state x y) ≡ played bits l x y

-- The main theorem of this crate: the micros of an operation leave its meaning in every pixel. Clauses of
-- public calls stand on it.
use Rattle.std.specs.Prelude.{◌≡◌, ℕ, ◌^◌, ◌<◌, All, List}
use Rattle.px_macro.specs.Macros.{IsLawful, PixelBits, after_macro, after_macros}
use Rattle.px_macro.specs.declared.operation.Macro.{Macro}
use Rattle.px_array.specs.Pixels.{PixelState}
use Rattle.px_tree.specs.Nodes.{IsGrid}
use Rattle.px_array.specs.Arrays.{HasGrid, State, pixel_of}
use Rattle.px_array.specs.Clocks.{HavePlaces, after_clocks}
use Rattle.px_asm.specs.Micros.{all_micros, micros}

-- what an operation speaks of in a pixel: all but carry and latch, which are as the micros leave them
abbrev pub bits_of : PixelState → PixelBits
bits_of p = record { memory = p.memory; enable = p.enable }

-- from any state, on every grid, of pixels with any number of memory bits
abbrev pub LeaveTheMeaning : Type 0
LeaveTheMeaning = (bits nx ny : ℕ) → IsGrid nx ny → (m : Macro) → IsLawful m bits →
    (s : State) → HasGrid bits nx ny s → (x y : ℕ) → x < 2 ^ nx → y < 2 ^ ny →
    bits_of (pixel_of (after_clocks (micros m nx ny) s) x y) ≡ after_macro m x y (bits_of (pixel_of s x y))

-- and so for operations one after another
abbrev pub LeaveTheMeanings : Type 0
LeaveTheMeanings = (bits nx ny : ℕ) → IsGrid nx ny → (ms : List Macro) → All (λ m. IsLawful m bits) ms →
    (s : State) → HasGrid bits nx ny s → (x y : ℕ) → x < 2 ^ nx → y < 2 ^ ny →
    bits_of (pixel_of (after_clocks (all_micros ms nx ny) s) x y) ≡ after_macros ms x y (bits_of (pixel_of s x y))

-- each place that a micro names is one of the memory
abbrev pub HaveTheirPlaces : Type 0
HaveTheirPlaces = (bits nx ny : ℕ) (m : Macro) → IsLawful m bits → HavePlaces bits (micros m nx ny)

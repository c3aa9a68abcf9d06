-- The planes of an array, by the rows that it lends.
use Rattle.px_state.proofs.Cited.{arith, bit_at, Bool, EachBit, false, IsRegister, IsShapeOf, length, levels_of, List}
use Rattle.px_state.proofs.Cited.{memory_bit, pixel_here, PixelState, placed, pow-add, Shape, State, words_for}
use Rattle.px_state.proofs.Cited.{zero_pixel, ℕ, ◌<◌, ◌^◌, ◌≡◌}
use Rattle.px_state.proofs.ShapeLemmas.{plane_end}

pub placed_register : (shape : Shape) (s : State) (register : PixelState → Bool) (row : List ℕ) → IsShapeOf shape s.tree
    → register (zero_pixel shape.bits) ≡ false → IsRegister s register row → (x y : ℕ) → y < 2 ^ shape.ny
    → placed shape row 0 x y ≡ register (pixel_here shape s.pixels x y)
placed_register shape s register row size none is x y in_grid = grind (arith, pow-add, plane_end)

pub memory_register : (s : State) (b : ℕ) (row : List ℕ) → length row ≡ words_for (2 ^ levels_of s.tree)
    → EachBit row (memory_bit s b) → IsRegister s (λ p. bit_at p.memory b) row
memory_register s b row long bits = grind arith

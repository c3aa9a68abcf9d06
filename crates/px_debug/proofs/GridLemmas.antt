-- Places in a grid and in a tree.
use Rattle.px_num.proofs.Basics.{◌≡◌, ℕ, ◌^◌, ◌<◌, ◌≤◌, length, arith, pow_mono, pow-add, mul-add-lt}
use Rattle.px_array.specs.Arrays.{HasGrid, State, pixel_of}

pub below_power : (x e most : ℕ) → x < 2 ^ e → e ≤ most → x < 2 ^ most
below_power x e most low small = let grows : 2 ^ e ≤ 2 ^ most = pow_mono small in omega arith

-- every pixel of a grid has the memory bits of its array
pub memory_long : (bits : ℕ) (s : State) (x y : ℕ) → HasGrid bits s.tree.nx s.tree.ny s → x < 2 ^ s.tree.nx
    → y < 2 ^ s.tree.ny →
    length (pixel_of s x y).memory ≡ bits
memory_long bits s x y grid column row = grind (arith, pow-add, mul-add-lt)

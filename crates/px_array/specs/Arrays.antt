-- What a contract sees of an array: the state of every pixel and node, and the clocks. Clauses of public calls
-- stand on it.
use Rattle.std.specs.Prelude.{◌≡◌, ℕ, ◌+◌, ◌*◌, ◌^◌, ◌<◌, ◌≤◌, List, [], length, replicate, slice_index_or}
use Rattle.px_array.specs.Pixels.{PixelState, zero_pixel}
use Rattle.px_tree.specs.Nodes.{TreeState, cleared}
use Rattle.px_array.specs.declared.micro.Registers.{Registers}

-- every pixel and every node; pixel (x, y) stands at place x * 2^ny + y, which is the index of its leaf
pub record State : Type 0 where
  pub pixels : List PixelState
  pub tree : TreeState

-- the state, and the clocks since it was opened
pub record Device : Type 0 where
  pub state : State
  pub clocks : ℕ

-- stands where no pixel is
abbrev pub no_pixel : PixelState
no_pixel = zero_pixel 0

-- the pixel at a place
abbrev pub pixel_at : State → ℕ → PixelState
pixel_at state place = slice_index_or state.pixels place no_pixel

-- pixel (x, y)
abbrev pub pixel_of : State → (x y : ℕ) → PixelState
pixel_of state x y = pixel_at state (x * 2 ^ state.tree.ny + y)

-- how many levels a tree has
abbrev pub levels_of : TreeState → ℕ
levels_of tree = tree.nx + tree.ny

abbrev pub registers_of : PixelState → Registers
registers_of p = record { enable = p.enable; carry = p.carry; latch = p.latch }

-- no array is open
abbrev pub closed : Device
closed = record { state = record { pixels = []; tree = record { nx = 0; ny = 0; nodes = [] } }; clocks = 0 }

-- the state of a new array of 2^nx by 2^ny pixels of so many bits, all of it 0
abbrev pub zero_state : ℕ → (nx ny : ℕ) → State
zero_state bits nx ny = record { pixels = replicate (2 ^ (nx + ny)) (zero_pixel bits); tree = cleared nx ny }

-- a new array
abbrev pub opened : ℕ → (nx ny : ℕ) → Device
opened bits nx ny = record { state = zero_state bits nx ny; clocks = 0 }

-- an open array has two columns at least, and a closed one counts as having none
abbrev pub IsOpen : Device → Type 0
IsOpen d = 1 ≤ d.state.tree.nx

abbrev pub IsClosed : Device → Type 0
IsClosed d = d.state.tree.nx ≡ 0

-- an array is open, and (x, y) is one of its pixels
pub record HasPixel (d : Device) (x y : ℕ) : Type 0 where
  pub is_open : IsOpen d
  pub column : x < 2 ^ d.state.tree.nx
  pub row : y < 2 ^ d.state.tree.ny

-- a state is one of 2^nx by 2^ny pixels of so many bits
pub record HasGrid (bits nx ny : ℕ) (s : State) : Type 0 where
  pub columns : s.tree.nx ≡ nx
  pub rows : s.tree.ny ≡ ny
  pub pixels : length s.pixels ≡ 2 ^ (nx + ny)
  pub memory : (place : ℕ) → place < 2 ^ (nx + ny) → length (pixel_at s place).memory ≡ bits

-- The parts of a state whose bits are in words. Only proofs and private functions stand on it.
use Rattle.std.specs.Prelude.{◌≡◌, ℕ, ◌+◌, ◌*◌, ◌^◌, ◌<◌, ◌≤◌, ◌⊎◌, ◌&&◌, Bool, List, get_or, length, nat_lt}
use Rattle.std.specs.Prelude.{if◌then◌else◌, slice_index_or}
use Rattle.px_num.specs.Bits.{bit_at, nat_bit}
use Rattle.px_array.specs.Arrays.{HasGrid, State, no_pixel}
use Rattle.px_array.specs.Pixels.{PixelState, zero_pixel}
use Rattle.px_array.specs.declared.act.Act.{Act}
use Rattle.px_planes.specs.Pixels.{acted_at}
use Rattle.px_rows.specs.Rows.{row_bit}
use Rattle.px_tree.specs.Nodes.{TreeState}
use Rattle.px_state.specs.Words.{IsNodeWord, IsPixel, padded_leaf, row_words, word_bit}
use Rattle.px_state.specs.declared.shape.Shape.{Shape}
use Rattle.px_state.specs.declared.acting.Cells.{Cells}

-- a shape has the columns and rows of a tree
pub record IsShapeOf (shape : Shape) (tree : TreeState) : Type 0 where
  pub columns : tree.nx ≡ shape.nx
  pub rows : tree.ny ≡ shape.ny

-- where the words of the leaves and of the nodes begin
abbrev pub leaves_at : Shape → ℕ
leaves_at shape = (shape.bits + 3) * shape.plane

abbrev pub nodes_at : Shape → ℕ
nodes_at shape = (shape.bits + 4) * shape.plane

-- how many words a state has: those of the nodes are the last
abbrev pub nodes_end : Shape → ℕ
nodes_end shape = nodes_at shape + 2 * shape.nodes

-- only words from one place to before another may have changed, and there are as many as before
pub record KeepsOutside (from past : ℕ) (old new : List ℕ) : Type 0 where
  pub others : (k : ℕ) → (k < from) ⊎ (past ≤ k) → get_or new k 0 ≡ get_or old k 0
  pub length : length new ≡ length old

-- a memory bit and the registers of a pixel, at bit i of the cells
pub record IsCell (at i : ℕ) (cells : Cells) (p : PixelState) : Type 0 where
  pub memory : nat_bit cells.memory i ≡ bit_at p.memory at
  pub enable : nat_bit cells.enable i ≡ p.enable
  pub carry : nat_bit cells.carry i ≡ p.carry
  pub latch : nat_bit cells.latch i ≡ p.latch

-- an act was done by the pixels of word k of each plane
abbrev pub IsActed : Shape → Act → (k : ℕ) → (old new : List ℕ) → Type 0
IsActed shape act k old new = (i : ℕ) (p : PixelState) → i < 64 → length p.memory ≡ shape.bits
    → IsPixel shape.bits shape.plane old k i p
    → IsPixel shape.bits shape.plane new k i
    (acted_at (nat_bit shape.full i) act (word_bit old (leaves_at shape + k) i) p)

-- the bit that a row has for column x of row y, where column 0 is the row's column `from`; past the last column 0
abbrev pub placed : Shape → List ℕ → (from x y : ℕ) → Bool
placed shape row from x y = nat_lt x (2 ^ shape.nx) && row_bit row ((from + x) * 2 ^ shape.ny + y)

-- the plane that begins at word `first` has these bits
abbrev pub HasPlane : Shape → (first : ℕ) → (bit : (x y : ℕ) → Bool) → List ℕ → Type 0
HasPlane shape first bit words = (y c i : ℕ) → y < 2 ^ shape.ny → c < row_words shape.nx → i < 64
    → word_bit words (first + (y * row_words shape.nx + c)) i ≡ bit (64 * c + i) y

-- the pixel of a list that stands at (x, y), of which past the last column each bit is 0
abbrev pub pixel_here : Shape → List PixelState → (x y : ℕ) → PixelState
pixel_here shape pixels x y =
    if nat_lt x (2 ^ shape.nx) then slice_index_or pixels (x * 2 ^ shape.ny + y) no_pixel else zero_pixel shape.bits

-- the words hold these pixels, the leaves of a tree, and its nodes
abbrev pub HoldsPixels : Shape → List PixelState → List ℕ → Type 0
HoldsPixels shape pixels words = (y c i : ℕ) → y < 2 ^ shape.ny → c < row_words shape.nx → i < 64
    → IsPixel shape.bits shape.plane words (y * row_words shape.nx + c) i (pixel_here shape pixels (64 * c + i) y)

abbrev pub HoldsLeaves : Shape → TreeState → List ℕ → Type 0
HoldsLeaves shape tree words = HasPlane shape (leaves_at shape) (padded_leaf tree) words

pub record HoldsNodes (shape : Shape) (tree : TreeState) (words : List ℕ) : Type 0 where
  pub output : (k : ℕ) → k < shape.nodes → IsNodeWord (λ n. n.output) tree k (get_or words (nodes_at shape + k) 0)
  pub carry : (k : ℕ) → k < shape.nodes
      → IsNodeWord (λ n. n.carry) tree k (get_or words (nodes_at shape + shape.nodes + k) 0)

-- the words hold the pixels and the nodes of a state; of the leaves nothing is said
pub record HoldsPixelsAndNodes (shape : Shape) (s : State) (words : List ℕ) : Type 0 where
  pub grid : HasGrid shape.bits shape.nx shape.ny s
  pub pixels : HoldsPixels shape s.pixels words
  pub nodes : HoldsNodes shape s.tree words

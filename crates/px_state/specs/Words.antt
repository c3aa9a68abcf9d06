-- A state of an array in words of 64 bits. Clauses of public calls stand on it. First the planes, each of them row
-- by row from row 0, and each row from column 0: the bits of memory from bit 0 on, then enable, carry, latch and
-- leaf, which is the output of the tree over the pixel. Then the outputs of all nodes of the tree, and then their
-- carries: node i of level k is bit 2^k + i, so that the levels stand one behind another.
use Rattle.std.specs.Prelude.{◌≡◌, ℕ, ◌+◌, ◌*◌, ◌^◌, ◌<◌, ◌&&◌, Bool, false, if◌then◌else◌, List, drop, get_or, nat_lt}
use Rattle.px_num.specs.Bits.{bit_at, nat_bit}
use Rattle.px_rows.specs.Rows.{words_for}
use Rattle.px_tree.specs.Nodes.{TreeState, at_place, leaf_bit}
use Rattle.px_tree.specs.declared.node.Node.{Node}
use Rattle.px_array.specs.Pixels.{PixelState, zero_pixel}
use Rattle.px_array.specs.Arrays.{State, pixel_of}

-- how many words a row has
abbrev pub row_words : (nx : ℕ) → ℕ
row_words nx = words_for (2 ^ nx)

-- how many words a plane has
abbrev pub plane_words : (nx ny : ℕ) → ℕ
plane_words nx ny = 2 ^ ny * row_words nx

-- how many words the outputs of the nodes have, and as many their carries
abbrev pub node_words : (nx ny : ℕ) → ℕ
node_words nx ny = words_for (2 ^ (nx + ny + 1))

-- how many words a state has
abbrev pub room_of : (bits nx ny : ℕ) → ℕ
room_of bits nx ny = (bits + 4) * plane_words nx ny + 2 * node_words nx ny

-- bit i of word k
abbrev pub word_bit : List ℕ → (k i : ℕ) → Bool
word_bit words k i = nat_bit (get_or words k 0) i

-- bit i of word k of each plane is a pixel's
pub record IsPixel (bits plane : ℕ) (words : List ℕ) (k i : ℕ) (p : PixelState) : Type 0 where
  pub memory : (b : ℕ) → b < bits → word_bit words (b * plane + k) i ≡ bit_at p.memory b
  pub enable : word_bit words (bits * plane + k) i ≡ p.enable
  pub carry : word_bit words ((bits + 1) * plane + k) i ≡ p.carry
  pub latch : word_bit words ((bits + 2) * plane + k) i ≡ p.latch

-- pixel (x, y), of which past the last column each bit is 0
abbrev pub padded_pixel : (bits : ℕ) → State → (x y : ℕ) → PixelState
padded_pixel bits s x y = if nat_lt x (2 ^ s.tree.nx) then pixel_of s x y else zero_pixel bits

-- the output of the leaf over it
abbrev pub padded_leaf : TreeState → (x y : ℕ) → Bool
padded_leaf tree x y = nat_lt x (2 ^ tree.nx) && leaf_bit tree x y

-- a latch of the node at a place, and 0 where there is no node
abbrev pub node_bit : (latch : Node → Bool) → TreeState → (place : ℕ) → Bool
node_bit latch tree place =
    if nat_lt place 2 then false else
    if nat_lt place (2 ^ (tree.nx + tree.ny + 1)) then latch (at_place tree.nodes place) else
    false

-- a word has a latch of the 64 nodes from place 64 * k on
abbrev pub IsNodeWord : (latch : Node → Bool) → TreeState → (k word : ℕ) → Type 0
IsNodeWord latch tree k word = (i : ℕ) → i < 64 → nat_bit word i ≡ node_bit latch tree (64 * k + i)

-- the words begin with those of a state: word c of row y has the columns from 64 * c on
pub record HoldsWords (bits : ℕ) (s : State) (words : List ℕ) : Type 0 where
  pub pixels : (y c i : ℕ) → y < 2 ^ s.tree.ny → c < row_words s.tree.nx → i < 64
      → IsPixel bits (plane_words s.tree.nx s.tree.ny) words (y * row_words s.tree.nx + c) i
      (padded_pixel bits s (64 * c + i) y)
  pub leaves : (y c i : ℕ) → y < 2 ^ s.tree.ny → c < row_words s.tree.nx → i < 64
      → word_bit words ((bits + 3) * plane_words s.tree.nx s.tree.ny + (y * row_words s.tree.nx + c)) i
      ≡ padded_leaf s.tree (64 * c + i) y
  pub outputs : (k : ℕ) → k < node_words s.tree.nx s.tree.ny → IsNodeWord (λ n. n.output) s.tree k
      (get_or words ((bits + 4) * plane_words s.tree.nx s.tree.ny + k) 0)
  pub carries : (k : ℕ) → k < node_words s.tree.nx s.tree.ny → IsNodeWord (λ n. n.carry) s.tree k
      (get_or words ((bits + 4) * plane_words s.tree.nx s.tree.ny + node_words s.tree.nx s.tree.ny + k) 0)

-- the words begin with those of a state, and what is behind them is as before
pub record BeginsWithState (bits : ℕ) (s : State) (before now : List ℕ) : Type 0 where
  pub holds : HoldsWords bits s now
  pub behind : drop (room_of bits s.tree.nx s.tree.ny) now ≡ drop (room_of bits s.tree.nx s.tree.ny) before

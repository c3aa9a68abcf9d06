-- What a slot keeps: rows of words one behind another. Only proofs and private functions stand on it.
use Rattle.std.specs.Prelude.{◌≡◌, ℕ, ◌+◌, ◌*◌, ◌^◌, ◌<◌, ◌≤◌, List, [], length, slice_index, slice_index_or}
use Rattle.px_array.specs.Arrays.{Device}
use Rattle.px_num.specs.Lists.{tabulate}
use Rattle.px_array.specs.Pixels.{PixelState, zero_pixel}
use Rattle.px_rows.specs.Rows.{words_for}
use Rattle.px_rows.specs.Rows.{row_bit}
use Rattle.px_planes.specs.declared.planes.Planes.{Planes}
use Rattle.px_tree.specs.Nodes.{TreeState}

-- the words that are there, and how many there may be
pub record ShelfView : Type 0 where
  pub words : List ℕ
  pub room : ℕ

-- the first rows are on a shelf, each of n words, one behind another
pub record AreShelved (n count : ℕ) (rows : List (List ℕ)) (words : List ℕ) : Type 0 where
  pub long : count * n ≤ length words
  pub each : (at j : ℕ) → at < count → j < n → slice_index words (at * n + j)
      ≡ slice_index (slice_index_or rows at []) j

-- all rows of planes, each of n words: the memory bits, then enable, carry and latch
pub record IsShelved (bits n : ℕ) (planes : Planes) (words : List ℕ) : Type 0 where
  pub long : length words ≡ (bits + 3) * n
  pub memory : (at j : ℕ) → at < bits → j < n → slice_index words (at * n + j)
      ≡ slice_index (slice_index_or planes.memory.items at []) j
  pub enable : (j : ℕ) → j < n → slice_index words (bits * n + j) ≡ slice_index planes.enable j
  pub carry : (j : ℕ) → j < n → slice_index words ((bits + 1) * n + j) ≡ slice_index planes.carry j
  pub latch : (j : ℕ) → j < n → slice_index words ((bits + 2) * n + j) ≡ slice_index planes.latch j

-- the pixel at a place of such rows
abbrev pub pixel_on : (bits n : ℕ) → List ℕ → ℕ → PixelState
pixel_on bits n words p = record {
  memory = tabulate bits (λ at. row_bit words (64 * (at * n) + p));
  enable = row_bit words (64 * (bits * n) + p);
  carry = row_bit words (64 * ((bits + 1) * n) + p);
  latch = row_bit words (64 * ((bits + 2) * n) + p);
}

-- the state and the clocks that are kept
abbrev pub device_on : (bits : ℕ) → TreeState → List ℕ → (clocks : ℕ) → Device
device_on bits tree words clocks = record {
  state = record {
    pixels =
        tabulate (2 ^ (tree.nx + tree.ny)) (pixel_on bits (words_for (2 ^ (tree.nx + tree.ny))) words);
    tree = tree;
  };
  clocks = clocks;
}

-- there are rows for n pixels, and 0 past the last
pub record IsFilled (bits n : ℕ) (words : List ℕ) : Type 0 where
  pub long : length words ≡ (bits + 3) * words_for n
  pub padding : (p : ℕ) → n ≤ p → p < 64 * words_for n → pixel_on bits (words_for n) words p ≡ zero_pixel bits

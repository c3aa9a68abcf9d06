-- Where tiles begin and end, and which tile a pixel is in.
use Rattle.px_num.proofs.Basics.{◌≡◌, ℕ, ◌+◌, ◌-◌, ◌*◌, ◌/◌, ◌%◌, ◌<◌, ◌≤◌, min, arith, div-lt_iff_lt-mul}
use Rattle.px_num.proofs.Basics.{div-mul-le_self, le-div_iff_mul-le, mul-le-mul_right, div-mul-add, mod-mul-add}
use Rattle.std.proofs.Math.Nat.{lt-div-mul-add}
use Rattle.std.proofs.lemmas.Nat.{div-add-mod'}
use Rattle.px_tile.specs.Tilings.{tiles_across}

pub some_across : (size pixels : ℕ) → 1 ≤ size → 1 ≤ pixels → 1 ≤ tiles_across size pixels
some_across size pixels some any =
    (le-div_iff_mul-le {k = size} {x = 1} {y = pixels + (size - 1)} (omega arith)).1 (omega arith)

-- so many tiles cover the pixels
pub covers_all : (size pixels x : ℕ) → 1 ≤ size → x < pixels → x / size < tiles_across size pixels
covers_all size pixels x some inside = grind (arith, lt-div-mul-add, div-lt_iff_lt-mul)

-- a pixel is in the tile of its quotient
pub in_part : (size pixels x k : ℕ) → 1 ≤ size → x < pixels → k ≡ x / size
    → (k * size ≤ x) × (x < k * size + min size (pixels - k * size))
in_part size pixels x k some inside is = grind (arith, div-mul-le_self, lt-div-mul-add)

-- and in no other
pub part_of_pixel : (size pixels x k : ℕ) → 1 ≤ size → k * size ≤ x → x < k * size + min size (pixels - k * size)
    → x / size ≡ k
part_of_pixel size pixels x k some from to = grind (arith, div-lt_iff_lt-mul, le-div_iff_mul-le)

-- a place by its row and its column
pub column_is : (columns row column : ℕ) → column < columns → (row * columns + column) % columns ≡ column
column_is columns row column low = mod-mul-add row columns column low

pub row_is : (columns row column : ℕ) → column < columns → (row * columns + column) / columns ≡ row
row_is columns row column low = div-mul-add row columns column low

pub place_is : (columns tile row column : ℕ) → row ≡ tile / columns → column ≡ tile % columns → row * columns
    + column ≡ tile
place_is columns tile row column p q = rw (p, q) (div-add-mod' tile columns)

pub place_inside : (columns rows row column : ℕ) → row < rows → column < columns → row * columns + column
    < columns * rows
place_inside columns rows row column high low = grind (arith, mul-le-mul_right)

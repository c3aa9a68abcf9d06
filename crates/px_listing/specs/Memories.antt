-- How the memory of every pixel is printed. Clauses of public calls stand on it.
use Rattle.std.specs.Prelude.{ℕ, ◌^◌, Bool, if◌then◌else◌, List, [], ◌∷◌, ◌++◌, codes, decimal}
use Rattle.std.specs.List.{flat_map, range_with_len}
use Rattle.px_array.specs.Arrays.{State, pixel_of}
use Rattle.px_asm.specs.Microprograms.{bits_of}
use Rattle.px_num.specs.Bits.{bit_at}
use Rattle.px_macro.specs.Macros.{PixelBits}
use Rattle.px_listing.specs.Listings.{ListingView}
use Rattle.px_listing.specs.Played.{played}

abbrev pub bit_digit : Bool → List ℕ
bit_digit b = (if b then 49 else 48) ∷ []

-- so many bits of a memory, from bit 0 on
abbrev pub digits_of : (bits : ℕ) → List Bool → List ℕ
digits_of bits memory = flat_map (λ at. bit_digit (bit_at memory at)) (range_with_len 0 bits)

-- the line of pixel (x, y)
unfoldable pub line_of_pixel : (bits : ℕ) → (x y : ℕ) → PixelBits → List ℕ
line_of_pixel bits x y p =
    codes "pixel " ++ decimal x ++ codes " " ++ decimal y ++ codes " m " ++ digits_of bits p.memory
    ++ codes " e " ++ bit_digit p.enable ++ codes "\n"

-- a line for each pixel of a row, from the left
abbrev pub row_lines : (bits columns : ℕ) → (bits_at : (x y : ℕ) → PixelBits) → (y : ℕ) → List ℕ
row_lines bits columns bits_at y = flat_map (λ x. line_of_pixel bits x y (bits_at x y)) (range_with_len 0 columns)

-- the rows of a grid of 2^nx by 2^ny pixels, from the top
abbrev pub memory_lines : (bits nx ny : ℕ) → (bits_at : (x y : ℕ) → PixelBits) → List ℕ
memory_lines bits nx ny bits_at = flat_map (row_lines bits (2 ^ nx) bits_at) (range_with_len 0 (2 ^ ny))

-- the lines of an array
abbrev pub memory_text : (bits : ℕ) → State → List ℕ
memory_text bits s = memory_lines bits s.tree.nx s.tree.ny (λ x y. bits_of (pixel_of s x y))

-- the lines of what a listing leaves, played on zeros
abbrev pub played_text : (bits : ℕ) → ListingView → List ℕ
played_text bits l = memory_lines bits l.nx l.ny (played bits l)

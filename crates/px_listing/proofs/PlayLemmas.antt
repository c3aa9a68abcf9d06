-- The clocks of a listing, one operation after another.
use Rattle.px_num.proofs.Basics.{◌≡◌, ℕ, ◌+◌, ◌^◌, ◌<◌, List, length, refl, ap, ◌∙◌, arith, length-append, sum_by}
use Rattle.px_num.proofs.Basics.{get_or-replicate, mul-add-lt, pow-add}
use Rattle.px_listing.proofs.Words.{bits_of, grid_after_clocks, grid_of_zero_state, HasGrid, length-tabulate, Macro}
use Rattle.px_listing.proofs.Words.{opened, pixel_of, zero_bits, zero_state}
use Rattle.std.proofs.lemmas.List.Recursion.{is_sum_by}
use Rattle.px_array.specs.Clocks.{all_clocked}
use Rattle.px_array.specs.declared.micro.Micro.{Micro}
use Rattle.px_asm.specs.Micros.{all_micros, cycles, micro_at, micros}

-- the clocks of operations are the sum of theirs
pub clocks_of_all : (ops : List Macro) (nx ny : ℕ) → length (all_micros ops nx ny) ≡ sum_by (λ m. cycles m nx ny) ops
clocks_of_all ops nx ny =
    is_sum_by (λ os. length (all_micros os nx ny)) (λ m. cycles m nx ny) refl (λ op os.
    length-append (micros op nx ny) (all_micros os nx ny)
    ∙ ap (λ n. n + length (all_micros os nx ny)) (length-tabulate (cycles op nx ny) (micro_at op nx ny))) ops

-- a pixel of a new array
pub zero_in_grid : (bits nx ny x y : ℕ) → x < 2 ^ nx → y < 2 ^ ny → bits_of (pixel_of (zero_state bits nx ny) x y)
    ≡ zero_bits bits
zero_in_grid bits nx ny x y column row = grind (arith, mul-add-lt, pow-add, get_or-replicate)

-- the grid of a new array after some micros
pub grid_of_played : (bits nx ny : ℕ) (ms : List Micro) → HasGrid bits nx ny (all_clocked ms (opened bits nx ny)).state
grid_of_played bits nx ny ms = grid_after_clocks bits nx ny ms (zero_state bits nx ny) (grid_of_zero_state bits nx ny)

-- Rows on a shelf.
use Rattle.px_num.proofs.Basics.{◌≡◌, ℕ, ◌+◌, ◌*◌, ◌%◌, ◌<◌, ◌≤◌, nat_lt, Bool, true, false, cond, None, Some, IsSome}
use Rattle.px_num.proofs.Basics.{List, [], ◌++◌, length, get_or, map, refl, sym, ap, ◌∙◌, arith, get_or-append-add}
use Rattle.px_num.proofs.Basics.{get_or-map, get_or_append_left, length-map, mul-le-mul}
use Rattle.px_planes.proofs.Words.{Device, get_or-tabulate, HasPixels, HasWords, is_tabulate, length-tabulate, nat_bit}
use Rattle.px_planes.proofs.Words.{no_pixel, pixel_in, pixels_in, Planes, row_bit, words_for}
use Rattle.px_num.specs.Lists.{tabulate}
use Rattle.px_planes.specs.Shelves.{IsFilled, IsShelved, pixel_on}

pub rows_fit : (k count n : ℕ) → k < count → k * n + n ≤ count * n
rows_fit k count n below = grind (arith, mul-le-mul)

-- one row more
pub pushed_row : (n at : ℕ) (words row : List ℕ) (rows : List (List ℕ)) → length words ≡ at * n
    → row ≡ get_or rows at []
    → ((k j : ℕ) → k < at → j < n → get_or words (k * n + j) 0 ≡ get_or (get_or rows k []) j 0)
    → (k j : ℕ) → k < at + 1 → j < n → get_or (words ++ row) (k * n + j) 0 ≡ get_or (get_or rows k []) j 0
pushed_row n at words row rows long is before k j below within = grind (arith, get_or_append_left, get_or-append-add)

-- ---- the pixels of what is kept

shelf_bit : (row words : List ℕ) (from n p : ℕ) → ((j : ℕ) → j < n → get_or words (from + j) 0 ≡ get_or row j 0)
    → p < 64 * n → row_bit words (64 * from + p) ≡ row_bit row p
shelf_bit row words from n p same within = grind arith

module _ (bits n : ℕ) (planes : Planes) (words : List ℕ) (memory : length planes.memory.items ≡ bits)
    (kept : IsShelved bits n planes words) where
  pub pixel_kept : (p : ℕ) → p < 64 * n → pixel_on bits n words p ≡ pixel_in planes p
  pixel_kept p within =
      rw (
        memory_kept,
        shelf_bit planes.enable words (bits * n) n p kept.enable within,
        shelf_bit planes.carry words ((bits + 1) * n) n p kept.carry within,
        shelf_bit planes.latch words ((bits + 2) * n) n p kept.latch within,
      ) refl
    where
      memory_kept : tabulate bits (λ at. row_bit words (64 * (at * n) + p)) ≡ map (λ row. row_bit row p)
          planes.memory.items
      memory_kept =
          sym (is_tabulate (map (λ row. row_bit row p) planes.memory.items) bits (λ at.
          row_bit words (64 * (at * n) + p)) false (length-map planes.memory.items (λ row. row_bit row p) ∙ memory)
          (λ at below.
          get_or-map (λ row. row_bit row p) planes.memory.items at [] false (omega (arith, memory))
          ∙ sym (shelf_bit (get_or planes.memory.items at []) words (at * n) n p (λ j h. kept.memory at j below h)
          within)))

module _ (bits count : ℕ) (planes : Planes) (words : List ℕ) (memory : length planes.memory.items ≡ bits)
    (kept : IsShelved bits (words_for count) planes words) where
  pub pixels_kept : tabulate count (pixel_on bits (words_for count) words) ≡ pixels_in count planes
  pixels_kept =
      sym (is_tabulate (pixels_in count planes) count (pixel_on bits (words_for count) words) no_pixel
      (length-tabulate count (pixel_in planes))
      (λ p h. get_or-tabulate count (pixel_in planes) p no_pixel h
      ∙ sym (pixel_kept bits (words_for count) planes words memory kept p (omega arith))))

  pub filled_by : HasPixels bits count planes → IsFilled bits count words
  filled_by pixels = record {
    long = kept.long;
    padding = λ p past within. pixel_kept bits (words_for count) planes words memory kept p within
        ∙ pixels.padding p past within;
  }

  pub pixels_taken : (mask : ℕ) → IsFilled bits count words → HasWords (words_for count) planes → planes.full ≡ mask
      → ((p : ℕ) → p < 64 * words_for count → nat_bit mask (p % 64) ≡ nat_lt p count) → HasPixels bits count planes
  pixels_taken mask filled rows same full = record {
    words = rows;
    memory = memory;
    full = λ p within. ap (λ m. nat_bit m (p % 64)) same ∙ full p within;
    padding = λ p past within. sym (pixel_kept bits (words_for count) planes words memory kept p within)
        ∙ filled.padding p past within;
  }

pub saved_flag : (b : Bool) (d : Device) → IsSome (cond b (Some d) None) → b ≡ true
saved_flag true d saved = refl
saved_flag false d saved = saved

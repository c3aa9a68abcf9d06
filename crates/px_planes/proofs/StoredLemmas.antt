-- Acts on rows, as what they do to the pixels.
use Rattle.px_num.proofs.Basics.{◌≡◌, ℕ, ◌*◌, ◌/◌, ◌<◌, ◌%◌, Bool, true, false, cond, List, [], length, length-set}
use Rattle.px_num.proofs.Basics.{get_or, get_or-set_other, get_or-set_same, set, map, replicate, sym, ap, ◌∙◌, arith}
use Rattle.px_num.proofs.Basics.{cases_eq, get_or-map, length-replicate, with_item}
use Rattle.px_planes.proofs.Words.{Act, acted_at, AddTree, get_or-replicate, HasWords, IsActed, majority, map-set}
use Rattle.px_planes.proofs.Words.{nat_bit, pixel_in, Planes, row_bit, set-get_or, stored, xor}

-- a row that is written is one bit of each pixel
pub stored_row : (rows : List (List ℕ)) (at p : ℕ) (new : List ℕ) (e v : Bool) → at < length rows
    → row_bit new p ≡ cond e v (row_bit (get_or rows at []) p) → map (λ row. row_bit row p)
    (set rows at new) ≡ cond e (set (map (λ row. row_bit row p) rows) at v) (map (λ row. row_bit row p) rows)
stored_row rows at p new true v h s =
    map-set (λ row. row_bit row p) rows at new ∙ ap (set (map (λ row. row_bit row p) rows) at) s
stored_row rows at p new false v h s =
    map-set (λ row. row_bit row p) rows at new
    ∙ (ap (set (map (λ row. row_bit row p) rows) at) (s ∙ sym (get_or-map (λ row. row_bit row p) rows at [] false h))
    ∙ set-get_or (map (λ row. row_bit row p) rows) at false)

pub bit_of_rows : (rows : List (List ℕ)) (at p : ℕ) → at < length rows → get_or (map (λ row. row_bit row p) rows) at
    false ≡ row_bit (get_or rows at []) p
bit_of_rows rows at p h = get_or-map (λ row. row_bit row p) rows at [] false h

-- every word of a row is the same
pub filled_bit : (n word p : ℕ) → p < 64 * n → row_bit (replicate n word) p ≡ nat_bit word (p % 64)
filled_bit n word p within = ap (λ w. nat_bit w (p % 64)) (get_or-replicate n (p / 64) word 0 (omega arith))

module _ (leaves : List ℕ) (old : Planes) (at : ℕ) (row : List ℕ) (place : at < length old.memory.items)
    (words : HasWords (length leaves) old) (long : length row ≡ length leaves) where
  pub words_stored : (k : ℕ) → k < length (set old.memory.items at row)
      → length (get_or (set old.memory.items at row) k []) ≡ length leaves
  words_stored k within = grind (arith, cases_eq, get_or-set_same, get_or-set_other, length-set)

  -- an act that stores a bit where the pixels are enabled
  pub store_law : (act : Act) (v : ℕ → Bool)
      → ((p : ℕ) → p < 64 * length row → row_bit row p ≡ cond (row_bit old.enable p) (v p)
      (row_bit (get_or old.memory.items at []) p))
      → ((p : ℕ) → stored at (v p) (pixel_in old p) ≡ acted_at (nat_bit old.full (p % 64)) act (row_bit leaves p)
      (pixel_in old p))
      → IsActed act leaves old (record old { memory = with_item old.memory at row })
  store_law act v each act_is = grind (arith, stored_row, words_stored, length-set)

  -- an act that adds
  pub add_law : (carry : List ℕ) → length carry ≡ length leaves
      → ((p : ℕ) → p < 64 * length row → row_bit row p ≡ cond (row_bit old.enable p)
      (xor (row_bit leaves p) (xor (row_bit (get_or old.memory.items at []) p) (row_bit old.carry p)))
      (row_bit (get_or old.memory.items at []) p))
      → ((p : ℕ) → p < 64 * length carry → row_bit carry p ≡ majority (row_bit leaves p)
      (row_bit (get_or old.memory.items at []) p) (row_bit old.carry p))
      → IsActed (AddTree at) leaves old (record old { memory = with_item old.memory at row; carry = carry })
  add_law carry long_carry each each_carry = grind (arith, bit_of_rows, stored_row, words_stored, length-set)

-- a row that is filled
pub record IsFilled (new : List ℕ) (n word : ℕ) : Type 0 where
  pub long : length new ≡ n
  pub bits : (p : ℕ) → p < 64 * n → row_bit new p ≡ nat_bit word (p % 64)

pub filled : (old new : List ℕ) (n word : ℕ) → length old ≡ n → new ≡ replicate (length old) word → IsFilled new n word
filled old new n word long is = grind (arith, length-replicate, filled_bit)

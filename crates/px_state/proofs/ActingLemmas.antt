-- What an act leaves of a pixel whose bits are in words.
use Rattle.px_state.proofs.Cited.{Act, acted, acted_at, acted_inside, acted_outside, after_act, arith, bit_at, Bool}
use Rattle.px_state.proofs.Cited.{cases_lt, get_or, get_or-tabulate, HasGrid, HoldsLeaves, HoldsPixels, inl, inr}
use Rattle.px_state.proofs.Cited.{is_tabulate, IsActed, IsPixel, KeepsOutside, leaf_bit, leaf_output, leaves_at}
use Rattle.px_state.proofs.Cited.{length, length-replicate, List, lt_false, lt_true, memory_place, nat_bit, no_pixel}
use Rattle.px_state.proofs.Cited.{Nop, other_bit, pixel_at, pixel_here, pixel_of, PixelState, pow-add, refl}
use Rattle.px_state.proofs.Cited.{row_words, Shape, State, subst, sym, word_bit, ℕ, ◌*◌, ◌+◌, ◌<◌, ◌^◌, ◌∙◌, ◌≡◌, ◌≢◌}
use Rattle.px_state.proofs.Cited.{◌≤◌}
use Rattle.px_state.proofs.ShapeLemmas.{plane_end}

-- an act leaves all other bits, and their number
pub other_bits : (inside : Bool) (a : Act) (t : Bool) (p : PixelState) (b : ℕ) → b ≢ memory_place a
    → bit_at (acted_at inside a t p).memory b ≡ bit_at p.memory b
other_bits inside a t p b h = grind (arith, other_bit)

-- a pixel stays where its words do
pub same_pixel : (bits plane k i : ℕ) (old new : List ℕ) (p : PixelState)
    → ((b : ℕ) → b < bits + 3 → get_or new (b * plane + k) 0 ≡ get_or old (b * plane + k) 0)
    → IsPixel bits plane old k i p → IsPixel bits plane new k i p
same_pixel bits plane k i old new p same is = grind arith

pub kept_pixels : (shape : Shape) (pixels : List PixelState) (from past : ℕ) (old new : List ℕ)
    → KeepsOutside from past old new → leaves_at shape ≤ from
    → HoldsPixels shape pixels old → HoldsPixels shape pixels new
kept_pixels shape pixels from past old new kept front held y c i row word bit =
    let k = y * row_words shape.nx + c in
    let within : k < shape.plane = omega (arith, shape.plane_is, plane_end y (2 ^ shape.ny) (row_words shape.nx) row) in
    same_pixel shape.bits shape.plane k i old new _
    (λ b below. kept.others _ (inl (omega (arith, front, within, plane_end b (shape.bits + 3) shape.plane below))))
    (held y c i row word bit)

-- `nop` leaves each pixel
pub none_acted : (bits nx ny : ℕ) (s : State) → HasGrid bits nx ny s → acted Nop s.tree s.pixels ≡ s.pixels
none_acted bits nx ny s grid =
    sym (is_tabulate s.pixels (2 ^ (s.tree.nx + s.tree.ny)) (pixel_at s) no_pixel (rw (grid.columns, grid.rows) grid.pixels)
    (λ k within. refl))

-- once each word has done the act, the words hold the pixels that have done it
module _ (shape : Shape) (s : State) (grid : HasGrid shape.bits shape.nx shape.ny s) (act : Act)
    (old new : List ℕ) (pixels : HoldsPixels shape s.pixels old) (leaves : HoldsLeaves shape s.tree old)
    (done : (k : ℕ) → k < shape.plane → IsActed shape act k old new) where
  pub acted_pixels : HoldsPixels shape (acted act s.tree s.pixels) new
  acted_pixels y c i row word bit =
      let k = y * row_words shape.nx + c in
      let within : k < shape.plane = omega (arith, shape.plane_is, plane_end y (2 ^ shape.ny) (row_words shape.nx) row) in
      subst (IsPixel shape.bits shape.plane new k i) here
      (done k within i (pixel_here shape s.pixels x y) bit long (pixels y c i row word bit))
    where
      x : ℕ
      x = 64 * c + i

      place : ℕ
      place = x * 2 ^ shape.ny + y

      leaf : Bool
      leaf = word_bit old (leaves_at shape + (y * row_words shape.nx + c)) i

      below : x < 2 ^ shape.nx → place < 2 ^ (shape.nx + shape.ny)
      below column = omega (arith, pow-add 2 shape.nx shape.ny, plane_end x (2 ^ shape.nx) (2 ^ shape.ny) column)

      long : length (pixel_here shape s.pixels x y).memory ≡ shape.bits
      long = grind (arith, length-replicate, below)

      inside : x < 2 ^ s.tree.nx → x * 2 ^ s.tree.ny + y < 2 ^ (s.tree.nx + s.tree.ny)
      inside column = grind (arith, pow-add, plane_end)

      here : acted_at (nat_bit shape.full i) act leaf (pixel_here shape s.pixels x y)
          ≡ pixel_here shape (acted act s.tree s.pixels) x y
      here = rw (shape.full_is c i word bit, leaves y c i row word bit, ← grid.columns, ← grid.rows)
          (elim (cases_lt x (2 ^ s.tree.nx)) [
            | inl column ↦
                rw (lt_true x (2 ^ s.tree.nx) column)
                (acted_inside act (leaf_bit s.tree x y) (pixel_of s x y)
                ∙ sym (get_or-tabulate (2 ^ (s.tree.nx + s.tree.ny))
                (λ place. after_act act (leaf_output s.tree place) (pixel_at s place)) (x * 2 ^ s.tree.ny + y) no_pixel
                (inside column)))
            | inr past ↦ rw (lt_false x (2 ^ s.tree.nx) past) (acted_outside shape.bits act)
          ])

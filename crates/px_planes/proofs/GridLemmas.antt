-- Grids of rows: their pixels after an act, and their padding.
use Rattle.px_num.proofs.Basics.{◌≡◌, ℕ, zero, suc, ◌+◌, ◌-◌, ◌*◌, ◌%◌, ◌^◌, ◌<◌, ◌≤◌, Bool, true, false, cond, nat_lt}
use Rattle.px_num.proofs.Basics.{List, [], length, get_or, map, replicate, refl, sym, ap, ◌∙◌, arith, inl, inr}
use Rattle.px_num.proofs.Basics.{cases_lt, le-ltb, lt-ltb, get_or_past, pow-add}
use Rattle.px_planes.proofs.Words.{Act, acted, acted_at, AddTree, after_act, and_false, and_true, bit_at, CarryLatch}
use Rattle.px_planes.proofs.Words.{CarryTree, Fetch, get_or-replicate, get_or-tabulate, HasPixels, is_tabulate}
use Rattle.px_planes.proofs.Words.{IsActed, IsZero, leaf_output, length-tabulate, nat_bit, no_pixel, pixel_in}
use Rattle.px_planes.proofs.Words.{pixels_in, PixelState, Planes, power_grows, registers_of, row_bit, SetCarry}
use Rattle.px_planes.proofs.Words.{TreeState, words_for, zero_pixel}
use Rattle.std.proofs.lemmas.Simd.{length-replicate}
use Rattle.px_array.specs.declared.micro.Registers.{Registers}
use Rattle.px_planes.proofs.StoredLemmas.{bit_of_rows}
use Rattle.px_plane_tree.proofs.TreeLemmas.{zero_bit}

-- inside the grid an act is that of the table
pub acted_inside : (act : Act) (t : Bool) (p : PixelState) → acted_at true act t p ≡ after_act act t p
acted_inside (SetCarry v) t p = ap (λ (b : Bool). record p { carry = b }) (and_true v)
acted_inside act t p = refl

no_bit : (bits at : ℕ) → get_or (replicate bits false) at false ≡ false
no_bit bits at = grind (arith, cases_lt, get_or-replicate, get_or_past, length-replicate)

-- and in the padding nothing is set
pub acted_outside : (bits : ℕ) (act : Act) → acted_at false act false (zero_pixel bits) ≡ zero_pixel bits
acted_outside bits (SetCarry v) = ap (λ (b : Bool). record (zero_pixel bits) { carry = b }) (and_false v)
acted_outside bits (Fetch at) = ap (λ (b : Bool). record (zero_pixel bits) { latch = b }) (no_bit bits at)
acted_outside bits (CarryTree at) = grind (arith, no_bit)
acted_outside bits (CarryLatch at) = grind (arith, no_bit)
acted_outside bits (AddTree at) = grind (arith, no_bit)
acted_outside bits act = refl

module _ (bits : ℕ) (act : Act) (tree : TreeState) (leaves : List ℕ) (old new : Planes) (long : length leaves
    ≡ words_for (2 ^ (tree.nx + tree.ny)))
    (leaf : (p : ℕ) → p < 64 * length leaves → row_bit leaves p ≡ cond (nat_lt p (2 ^ (tree.nx + tree.ny)))
    (leaf_output tree p) false)
    (pixels : HasPixels bits (2 ^ (tree.nx + tree.ny)) old) (done : IsActed act leaves old new) where
  pub acted_law : pixels_in (2 ^ (tree.nx + tree.ny)) new ≡ acted act tree (pixels_in (2 ^ (tree.nx + tree.ny)) old)
  acted_law =
      is_tabulate (pixels_in (2 ^ (tree.nx + tree.ny)) new) (2 ^ (tree.nx + tree.ny))
      (λ p. after_act act (leaf_output tree p) (get_or (pixels_in (2 ^ (tree.nx + tree.ny)) old) p no_pixel))
      no_pixel (length-tabulate (2 ^ (tree.nx + tree.ny)) (pixel_in new))
      (λ p h.
      let in_row : p < 64 * length leaves = omega (arith, long) in
      let inside : nat_bit old.full (p % 64) ≡ true =
      pixels.full p (omega (arith, long)) ∙ lt-ltb p (2 ^ (tree.nx + tree.ny)) h in
      let bit : row_bit leaves p ≡ leaf_output tree p =
      leaf p in_row ∙ rw (lt-ltb p (2 ^ (tree.nx + tree.ny)) h) refl in
      let before : get_or (pixels_in (2 ^ (tree.nx + tree.ny)) old) p no_pixel ≡ pixel_in old p =
      get_or-tabulate (2 ^ (tree.nx + tree.ny)) (pixel_in old) p no_pixel h in
      get_or-tabulate (2 ^ (tree.nx + tree.ny)) (pixel_in new) p no_pixel h
      ∙ (done.each p in_row ∙ (ap (λ (b : Bool). acted_at b act (row_bit leaves p) (pixel_in old p)) inside
      ∙ (acted_inside act (row_bit leaves p) (pixel_in old p)
      ∙ (ap (λ (b : Bool). after_act act b (pixel_in old p)) bit
      ∙ ap (after_act act (leaf_output tree p)) (sym before))))))

  pub still_pixels : HasPixels bits (2 ^ (tree.nx + tree.ny)) new
  still_pixels = grind (arith, le-ltb, acted_outside)

-- ---- rows of 0

zero_memory : (bits words p : ℕ) → map (λ (row : List ℕ). row_bit row p) (replicate bits (replicate words 0))
    ≡ replicate bits false
zero_memory zero words p = refl
zero_memory (suc bits) words p = grind (arith, zero_bit, zero_memory bits words p)

zero_pixel_in : (bits words mask : ℕ) (planes : Planes) (p : ℕ) → IsZero bits words mask planes → pixel_in planes p
    ≡ zero_pixel bits
zero_pixel_in bits words mask planes p z = grind (arith, zero_memory, zero_bit)

pub zero_law : (bits words mask n : ℕ) (planes : Planes) → IsZero bits words mask planes → pixels_in n planes
    ≡ replicate n (zero_pixel bits)
zero_law bits words mask n planes z =
    sym (is_tabulate (replicate n (zero_pixel bits)) n (pixel_in planes) no_pixel (length-replicate n (zero_pixel bits))
    (λ p h. get_or-replicate n p (zero_pixel bits) no_pixel h ∙ sym (zero_pixel_in bits words mask planes p z)))

pub zero_pixels : (bits words mask n : ℕ) (planes : Planes) → 1 ≤ n → words ≡ words_for n → (64 < n → n % 64 ≡ 0)
    → ((i : ℕ) → i < 64 → nat_bit mask i ≡ nat_lt i n) → IsZero bits words mask planes → HasPixels bits n planes
zero_pixels bits words mask n planes some enough whole full z =
    grind (arith, get_or-replicate, length-replicate, zero_pixel_in)

-- ---- single bits

pub bit_law : (bits n : ℕ) (planes : Planes) (at p : ℕ) → HasPixels bits n planes → at < bits → p < n
    → row_bit (get_or planes.memory.items at []) p ≡ bit_at (get_or (pixels_in n planes) p no_pixel).memory at
bit_law bits n planes at p pixels place within = grind (arith, bit_of_rows, get_or-tabulate)

pub row_law : (bits n : ℕ) (planes : Planes) (at p : ℕ) → HasPixels bits n planes → at < bits → p < 64 * words_for n
    → row_bit (get_or planes.memory.items at []) p
    ≡ cond (nat_lt p n) (bit_at (get_or (pixels_in n planes) p no_pixel).memory at) false
row_law bits n planes at p pixels place within = elim (cases_lt p n) [
  | inl l ↦ bit_law bits n planes at p pixels place l ∙ rw (lt-ltb p n l) refl
  | inr g ↦
      sym (bit_of_rows planes.memory.items at p (omega (arith, pixels.memory)))
      ∙ (ap (λ (x : PixelState). bit_at x.memory at) (pixels.padding p g within)
      ∙ (no_bit bits at ∙ rw (le-ltb p n g) refl))
]

pub registers_law : (n : ℕ) (planes : Planes) (p : ℕ) (enable carry latch : Bool) → p < n
    → enable ≡ row_bit planes.enable p → carry ≡ row_bit planes.carry p → latch ≡ row_bit planes.latch p
    → ◌≡◌ {A = Registers} (record { enable = enable; carry = carry; latch = latch })
    (registers_of (get_or (pixels_in n planes) p no_pixel))
registers_law n planes p enable carry latch within e k l =
    rw (e, k, l) (ap registers_of (sym (get_or-tabulate n (pixel_in planes) p no_pixel within)))

-- the pixels of a grid fill whole words, or less than one
pub whole_words : (levels : ℕ) → 64 < 2 ^ levels → 2 ^ levels % 64 ≡ 0
whole_words levels large = elim (cases_lt levels 6) [
  | inl l ↦ absurd (omega (arith, power_grows levels 5 (omega arith)))
  | inr g ↦
      let place : levels ≡ 6 + (levels - 6) = omega arith in
      let power : 2 ^ levels ≡ 64 * 2 ^ (levels - 6) = ap (λ n. 2 ^ n) place ∙ pow-add 2 6 (levels - 6) in
      omega arith
]

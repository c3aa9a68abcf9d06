-- What the passes of a solid, of the background and of a light leave in the memory of a pixel.
use Rattle.px_num.proofs.Basics.{◌≡◌, ◌≢◌, ◌<◌, ◌≤◌, ◌+◌, ◌^◌, ◌∙◌, ℕ, Bool, true, false, ◌&&◌, not, List, [], ◌∷◌}
use Rattle.px_num.proofs.Basics.{length, slice_set, if◌then◌else◌, refl, ap, sym, arith, get_or-set_same}
use Rattle.px_num.proofs.Basics.{get_or-set_other, length-set, beq, flat_map, range_with_len}
use Rattle.px_shadow.proofs.Words.{after_macros, and_false, and_true, bit_at, deep_part, face_count, Field}
use Rattle.px_shadow.proofs.Words.{is_inside_at, LayoutView, light_bit, number_in, number_same, PixelBits, solid_passes}
use Rattle.px_shadow.proofs.Words.{SolidView, stored_turn}
use Rattle.px_sched.proofs.BridgeLemmas.{pixel}
use Rattle.px_shadow.proofs.TurnLemmas.{all_turned}
use Rattle.px_macro.proofs.MacroLemmas.{meanings_join}
use Rattle.px_macro.specs.declared.operation.Macro.TheVariants as m

-- what passes of a light write: the parity bit and the light's
pub record Keeps (par bit : ℕ) (before now : List Bool) : Type 0 where
  pub size : length now ≡ length before
  pub rest : (place : ℕ) → place ≢ par → place ≢ bit → bit_at now place ≡ bit_at before place

pub keeps_all : (par bit : ℕ) (memory : List Bool) → Keeps par bit memory memory
keeps_all par bit memory = record { size = refl; rest = λ place p b. refl }

pub keeps_both : (par bit : ℕ) (a b c : List Bool) → Keeps par bit a b → Keeps par bit b c → Keeps par bit a c
keeps_both par bit a b c first second = grind arith

keeps_par : (par bit : ℕ) (memory : List Bool) (v : Bool) → Keeps par bit memory (slice_set memory par v)
keeps_par par bit memory v = grind (arith, length-set, get_or-set_other)

pub keeps_bit : (par bit : ℕ) (memory : List Bool) (v : Bool) → Keeps par bit memory (slice_set memory bit v)
keeps_bit par bit memory v = grind (arith, length-set, get_or-set_other)

pub keeps_if : (par bit : ℕ) (c : Bool) (a b d : List Bool) → Keeps par bit a b → Keeps par bit a d
    → Keeps par bit a (if c then b else d)
keeps_if par bit true a b d first second = first
keeps_if par bit false a b d first second = second

-- a field before them keeps its number
pub number_kept : (par bit : ℕ) (field : Field) (before now : List Bool) → field.at + field.len ≤ par → par ≤ bit →
    Keeps par bit before now → number_in field now ≡ number_in field before
number_kept par bit field before now low above keeps = grind (arith, number_same)

-- a bit that is cleared where a test holds
pub out_bit : (par bit : ℕ) (c : Bool) (now : List Bool) → bit < length now →
    bit_at (if c then slice_set now bit false else now) bit ≡ (bit_at now bit && not c)
out_bit par bit true now room = get_or-set_same now bit false false room ∙ sym (and_false (bit_at now bit))
out_bit par bit false now room = sym (and_true (bit_at now bit))

-- what some passes of a light leave of a memory: they write no other bits, and the light goes out where a test holds
pub record GoesOut (par bit : ℕ) (test : Bool) (before now : List Bool) : Type 0 where
  pub keeps : Keeps par bit before now
  pub light : bit_at now bit ≡ (bit_at before bit && not test)

beq_true : (a : Bool) → (true && beq a true) ≡ a
beq_true true = refl
beq_true false = refl

module _ (l : LayoutView) (light : ℕ) (some : 0 < light) (x y : ℕ) where
  abbrev bit : ℕ
  bit = light_bit l light

  -- the stored cell is inside a solid
  abbrev pub is_stored_inside : (end : ℕ) → SolidView → List Bool → Bool
  is_stored_inside end s memory = is_inside_at s end x y (number_in (deep_part l l.key_b) memory)

  pub solid_goes_out : (end : ℕ) (s : SolidView) → end < 2 ^ (deep_part l l.key_b).len →
      (deep_part l l.key_b).at + (deep_part l l.key_b).len ≤ l.par →
      (p : PixelBits) → bit < length p.memory →
      GoesOut l.par bit (is_stored_inside end s p.memory) p.memory (after_macros (solid_passes l end light s) x y
      p).memory
  solid_goes_out end s big low p room =
      let memory = p.memory in
      let inside = is_stored_inside end s memory in
      let start = pixel (slice_set memory l.par false) true in
      let faces = flat_map (stored_turn l end s) (range_with_len 0 (face_count s)) in
      let last = m.All ∷ m.KeepBit l.par true ∷ m.SetBit bit false ∷ [] in
      let odd = slice_set memory l.par inside in
      let is : (after_macros (solid_passes l end light s) x y p).memory
      ≡ (if inside then slice_set odd bit false else odd) =
      ap (λ (q : PixelBits). q.memory) (meanings_join faces last x y start)
      ∙ ap (λ mem. if true && beq (bit_at mem l.par) true then slice_set mem bit false else mem)
      (all_turned s end x y l memory (omega arith)
      (λ v. number_kept l.par bit (deep_part l l.key_b) memory (slice_set memory l.par v) low (omega arith)
      (keeps_par l.par bit memory v))
      big true)
      ∙ ap (λ b. if true && beq b true then slice_set odd bit false else odd)
      (get_or-set_same memory l.par inside false (omega arith))
      ∙ ap (λ b. if b then slice_set odd bit false else odd) (beq_true inside) in
      grind (arith, keeps_if, keeps_both, keeps_par, keeps_bit, out_bit, length-set, get_or-set_other)

-- What the passes of a light leave in the memory of a pixel, and those of all lights.
use Rattle.px_num.proofs.Basics.{◌≡◌, ◌≢◌, ◌<◌, ◌≤◌, ◌+◌, ◌^◌, ◌==◌, ◌∙◌, ℕ, Bool, true, false, ◌&&◌, not, List, []}
use Rattle.px_num.proofs.Basics.{◌∷◌, ◌++◌, length, map, slice_set, if◌then◌else◌, refl, ap, sym, arith}
use Rattle.px_num.proofs.Basics.{get_or-set_same, length-set, zero, suc, beq, flat_map, list_all, range_with_len}
use Rattle.px_num.proofs.Basics.{nat_tests, list_all-append}
use Rattle.px_shadow.proofs.Words.{after_macros, and_both, and_true, background_passes, bit_at, deep_part, depths_of}
use Rattle.px_shadow.proofs.Words.{end_of, is_inside_at, LayoutView, light_at, light_bit, light_passes}
use Rattle.px_shadow.proofs.Words.{number_from_bits, number_in, number_part, passes_from, PixelBits, range_more}
use Rattle.px_shadow.proofs.Words.{solid_of, solid_passes, solids, SolidSet}
use Rattle.px_num.proofs.BitLaws.{pow_above}
use Rattle.px_model.specs.Scenes.{SceneView}
use Rattle.px_sched.proofs.BridgeLemmas.{pixel}
use Rattle.px_shadow.proofs.SolidLemmas.{GoesOut, Keeps, keeps_all, keeps_bit, keeps_both, keeps_if, number_kept}
use Rattle.px_shadow.proofs.SolidLemmas.{out_bit, solid_goes_out}
use Rattle.px_macro.proofs.MacroLemmas.{meanings_join}
use Rattle.px_macro.specs.declared.operation.Macro.TheVariants as m

-- a number is 0 where each of its bits is
is_zero : (bit : ℕ → Bool) (n : ℕ) → list_all (λ t. beq (bit t) false) (range_with_len 0 n)
    ≡ (number_from_bits bit n == 0)
is_zero bit zero = refl
is_zero bit (suc n) =
    let e : 0 + n ≡ n = omega arith in
    ap (list_all (λ t. beq (bit t) false)) (range_more 0 n ∙ ap (λ k. range_with_len 0 n ++ (k ∷ [])) e)
    ∙ list_all-append (λ t. beq (bit t) false) (range_with_len 0 n) (n ∷ [])
    ∙ ap (λ b. b && (beq (bit n) false && true)) (is_zero bit n)
    ∙ last (bit n) (number_from_bits bit n) (2 ^ n) (pow_above n)
  where
    last : (b : Bool) (low high : ℕ) → 0 < high → ((low == 0) && (beq b false && true))
        ≡ (low + (if b then high else 0) == 0)
    last true low high some = grind (arith, nat_tests)
    last false low high some = grind (arith, nat_tests)

-- the pixels at which all of these bits are 0 stay enabled
bits_kept : (at : ℕ) (ts : List ℕ) (x y : ℕ) (memory : List Bool) (e : Bool)
    → after_macros (map (λ t. m.KeepBit (at + t) false) ts) x y (pixel memory e)
    ≡ pixel memory (e && list_all (λ t. beq (bit_at memory (at + t)) false) ts)
bits_kept at [] x y memory e = ap (pixel memory) (sym (and_true e))
bits_kept at (t ∷ ts) x y memory e =
    let b = beq (bit_at memory (at + t)) false in
    bits_kept at ts x y memory (e && b)
    ∙ ap (pixel memory) (and_both e b (list_all (λ t. beq (bit_at memory (at + t)) false) ts))

module _ (l : LayoutView) (light : ℕ) (some : 0 < light) (x y : ℕ) where
  abbrev bit : ℕ
  bit = light_bit l light

  background_goes_out : (p : PixelBits) → bit < length p.memory →
      GoesOut l.par bit (number_in (number_part l l.key_b) p.memory == 0) p.memory
      (after_macros (background_passes l light) x y p).memory
  background_goes_out p room =
      let memory = p.memory in
      let at = (number_part l l.key_b).at in
      let none = number_in (number_part l l.key_b) memory == 0 in
      let bits = map (λ t. m.KeepBit (at + t) false) (range_with_len 0 l.number_bits) in
      let last = m.SetBit bit false ∷ [] in
      let is : (after_macros (background_passes l light) x y p).memory
      ≡ (if none then slice_set memory bit false else memory) =
      ap (λ (q : PixelBits). q.memory)
      (meanings_join bits last x y (pixel memory true)
      ∙ ap (after_macros last x y) (bits_kept at (range_with_len 0 l.number_bits) x y memory true))
      ∙ ap (λ b. if b then slice_set memory bit false else memory)
      (is_zero (λ t. bit_at memory (at + t)) l.number_bits) in
      rw is record {
        keeps = keeps_if l.par bit none memory _ _ (keeps_bit l.par bit memory false) (keeps_all l.par bit memory);
        light = out_bit l.par bit none memory room;
      }

-- what the lights need of a layout
pub record IsReady (l : LayoutView) (end : ℕ) : Type 0 where
  pub big : end < 2 ^ (deep_part l l.key_b).len
  pub deep : (deep_part l l.key_b).at + (deep_part l l.key_b).len ≤ l.par
  pub number : (number_part l l.key_b).at + (number_part l l.key_b).len ≤ l.par

module _ (scene : SceneView) (l : LayoutView) (ready : IsReady l (end_of (depths_of scene))) (x y : ℕ) where
  abbrev end : ℕ
  end = end_of (depths_of scene)

  abbrev pub deep : List Bool → ℕ
  deep memory = number_in (deep_part l l.key_b) memory

  abbrev pub number : List Bool → ℕ
  number memory = number_in (number_part l l.key_b) memory

  -- a value is outside each of some solids
  abbrev pub outside : (v : ℕ) → List ℕ → Bool
  outside v qs = list_all (λ q. not (is_inside_at (solid_of scene q) end x y v)) qs

  regroup : (a b c : Bool) → ((a && b) && c) ≡ (a && (b && c))
  regroup true b c = refl
  regroup false b c = refl

  solids_go_out : (light : ℕ) → 0 < light → (qs : List ℕ) (p : PixelBits) → light_bit l light < length p.memory →
      let now = (after_macros (flat_map (λ q. solid_passes l end light (solid_of scene q)) qs) x y p).memory in
      Keeps l.par (light_bit l light) p.memory now
      × (bit_at now (light_bit l light) ≡ (bit_at p.memory (light_bit l light) && outside (deep p.memory) qs))
  solids_go_out light some [] p room = grind (arith, keeps_all, and_true)
  solids_go_out light some (q ∷ qs) p room =
      let bit = light_bit l light in
      let s = solid_of scene q in
      let next = after_macros (solid_passes l end light s) x y p in
      let one = solid_goes_out l light some x y end s ready.big ready.deep p room in
      let others = solids_go_out light some qs next (omega (arith, one.keeps.size)) in
      let same : deep next.memory ≡ deep p.memory =
      number_kept l.par bit (deep_part l l.key_b) p.memory next.memory ready.deep (omega arith) one.keeps in
      grind (arith, keeps_both, regroup, meanings_join)

  -- a light is on where a face is stored and the stored cell is outside its solids
  abbrev pub lit : SolidSet → List Bool → Bool
  lit set memory = outside (deep memory) (solids set) && not (number memory == 0)

  light_is : (light : ℕ) → 0 < light → (set : SolidSet) (p : PixelBits) → light_bit l light < length p.memory →
      let now = (after_macros (light_passes scene l light set) x y p).memory in
      Keeps l.par (light_bit l light) p.memory now × (bit_at now (light_bit l light) ≡ lit set p.memory)
  light_is light some set p room =
      let bit = light_bit l light in
      let start = pixel (slice_set p.memory bit true) true in
      let on = keeps_bit l.par bit p.memory true in
      let each = flat_map (λ q. solid_passes l end light (solid_of scene q)) (solids set) in
      let between = after_macros each x y start in
      let all = solids_go_out light some (solids set) start (omega (arith, length-set p.memory bit true)) in
      let none = background_goes_out l light some x y between
      (omega (arith, all.0.size, length-set p.memory bit true)) in
      let both = keeps_both l.par bit _ _ _ on all.0 in
      let same_deep : deep start.memory ≡ deep p.memory =
      number_kept l.par bit (deep_part l l.key_b) p.memory start.memory ready.deep (omega arith) on in
      let same_number : number between.memory ≡ number p.memory =
      number_kept l.par bit (number_part l l.key_b) p.memory between.memory ready.number (omega arith) both in
      grind (arith, keeps_both, get_or-set_same, meanings_join)

  -- what the passes of lights from one on leave: the bits before them, but for the parity, and each light
  pub record AreLit (light : ℕ) (sets : List SolidSet) (before now : List Bool) : Type 0 where
    pub rest : (place : ℕ) → place ≢ l.par → place < light_bit l light → bit_at now place ≡ bit_at before place
    pub lights : (place : ℕ) → place < length sets → bit_at now (light_bit l light + place)
        ≡ lit (light_at sets place) before

  -- a light is found from the stored key alone
  lit_same : (set : SolidSet) (light : ℕ) (before now : List Bool) → Keeps l.par (light_bit l light) before now
      → lit set now ≡ lit set before
  lit_same set light before now keeps =
      rw (
        number_kept l.par (light_bit l light) (deep_part l l.key_b) before now ready.deep (omega arith) keeps,
        number_kept l.par (light_bit l light) (number_part l l.key_b) before now ready.number (omega arith) keeps,
      ) refl

  lights_of : (light : ℕ) → 0 < light → (set : SolidSet) (sets : List SolidSet) (before mid now : List Bool)
      → Keeps l.par (light_bit l light) before mid → bit_at mid (light_bit l light) ≡ lit set before
      → AreLit (light + 1) sets mid now → (place : ℕ) → place < length (set ∷ sets)
      → bit_at now (light_bit l light + place) ≡ lit (light_at (set ∷ sets) place) before
  lights_of light some set sets before mid now keeps here others zero below = grind arith
  lights_of light some set sets before mid now keeps here others (suc place) below =
      grind (arith, lit_same (light_at sets place) light before mid keeps)

  pub are_lit : (light : ℕ) → 0 < light → (sets : List SolidSet) (p : PixelBits) → light_bit l light + length sets
      ≤ length p.memory →
      AreLit light sets p.memory (after_macros (passes_from scene l light sets) x y p).memory
  are_lit light some [] p room = record { rest = λ place a b. refl; lights = λ place none. absurd (omega arith) }
  are_lit light some (set ∷ sets) p room =
      let first = light_passes scene l light set in
      let next = after_macros first x y p in
      let one = light_is light some set p (omega arith) in
      let others = are_lit (light + 1) (omega arith) sets next (omega (arith, one.0.size)) in
      grind (arith, lights_of, meanings_join)

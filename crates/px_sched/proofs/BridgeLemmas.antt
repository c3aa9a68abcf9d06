-- What the operations of each step do to the bits of a pixel is what the step does to the numbers.
use Rattle.px_num.proofs.Basics.{rules, ◌≡◌, ℕ, ◌+◌, ◌-◌, ◌*◌, ◌/◌, ◌^◌, ◌<◌, ◌≤◌, ◌==◌, Bool, true, false, ◌&&◌, not}
use Rattle.px_num.proofs.Basics.{[], nat_lt, List, ◌∷◌, ◌++◌, length, map, slice_set, inl, inr, refl, ap, sym, ◌∙◌}
use Rattle.px_num.proofs.Basics.{arith, get_or-set_same, get_or-set_other, if◌then◌else◌, beq, is_negative, flat_map}
use Rattle.px_num.proofs.Basics.{cases_Bool, nat_tests, div-mul-add}
use Rattle.px_sched.proofs.Words.{after_step, after_steps, and_both, and_true, Begin, beq_true, bit_at, Candidate}
use Rattle.px_sched.proofs.Words.{Clear, Confirm, covers, deep_part, depth_part, Depths, depths_of, Drop, end_of}
use Rattle.px_sched.proofs.Words.{face_number, face_plane, Field, fraction_part, Front, hold_at, keep_covered, key}
use Rattle.px_sched.proofs.Words.{KeyedPixel, Keys, layout_with, LayoutView, Linear, loaded, Macro, Merge, modulo_below}
use Rattle.px_sched.proofs.Words.{need_of, number_part, Open, operations, plus, pow_above, residue, SceneView, solid_of}
use Rattle.px_sched.proofs.Words.{SolidView, Step, Turn, value_at, where_fraction, where_passed, where_passing}
use Rattle.px_sched.proofs.Words.{without_fraction}
use Rattle.std.proofs.lemmas.Nat.{mod_low}
use Rattle.px_macro.proofs.MacroLemmas.{meanings_join, memory_stays_long}
use Rattle.px_macro.proofs.NumberLaws.{bit_beside_is_kept, number_beside_is_kept, number_is_below, number_is_kept}
use Rattle.px_macro.proofs.NumberLaws.{number_is_read, number_of_two_parts}
use Rattle.px_macro.specs.Fields.{is_in, number_in, with_number}
use Rattle.px_sched.proofs.CoverLaws.{mod_small, no_fraction}
use Rattle.px_macro.specs.Macros.{PixelBits, after_macro, after_macros}
use Rattle.px_sched.specs.declared.step.Step.TheVariants.{Start}
use Rattle.px_macro.specs.declared.operation.Macro.TheVariants as m

-- a number that has room is read as it was written
read_back : (f : Field) (n : ℕ) (memory : List Bool) → f.at + f.len ≤ length memory → n < 2 ^ f.len →
    number_in f (with_number f n memory) ≡ n
read_back f n memory within room = number_is_read f n memory within ∙ mod_small n (2 ^ f.len) room

-- a place outside a field
outside : (f : Field) (place : ℕ) → f.at + f.len ≤ place → is_in f place ≡ false
outside f place past = grind (arith, nat_tests)

-- the number in a field, by its low part and its high one
pub number_cut : (at high low : ℕ) (memory : List Bool) → number_in (record { at = at; len = high + low }) memory
    ≡ number_in (record { at = at; len = low }) memory
    + 2 ^ low * number_in (record { at = at + low; len = high }) memory
number_cut at high low memory =
    let swap : high + low ≡ low + high = omega arith in
    ap (λ n. number_in (record { at = at; len = n }) memory) swap ∙ number_of_two_parts at low high memory

-- two numbers are what their joined number is cut into
low_part : (i a b c d : ℕ) → a < 2 ^ i → c < 2 ^ i → a + 2 ^ i * b ≡ c + 2 ^ i * d → a ≡ c
low_part i a b c d first second same = grind (arith, mod_low b i a first, mod_low d i c second)

high_part : (p b d : ℕ) → 0 < p → p * b ≡ p * d → b ≡ d
high_part p b d some same = grind (arith, same)

-- the parts of the memory, by the bits of a depth, of its fraction and of a face number
module _ (w f i : ℕ) where
  abbrev laid : LayoutView
  laid = layout_with w f i

  abbrev pub t_number : Field
  t_number = number_part laid laid.key_t

  abbrev pub t_deep : Field
  t_deep = deep_part laid laid.key_t

  abbrev pub t_fraction : Field
  t_fraction = fraction_part laid laid.key_t

  -- the numbers that a memory holds
  abbrev pub keys_in : List Bool → Keys
  keys_in memory = record {
    best = number_in laid.key_b memory;
    deep = number_in t_deep memory;
    number = number_in t_number memory;
    alive = bit_at memory laid.alive;
    par = bit_at memory laid.par;
  }

  module _ (memory : List Bool) (long : need_of laid ≤ length memory) where
    beside : (g : Field) (n place : ℕ) → g.at + g.len ≤ place → place < length memory
        → bit_at (with_number g n memory) place ≡ bit_at memory place
    beside g n place past low = bit_beside_is_kept g n memory place low (outside g place past)

    deep_written : (n : ℕ) → n < 2 ^ (w + f) → keys_in (with_number t_deep n memory)
        ≡ record (keys_in memory) { deep = n }
    deep_written n room =
        rw (
          number_is_kept t_deep laid.key_b n memory (omega arith) (inr (omega arith)),
          number_is_kept t_deep t_number n memory (omega arith) (inr (omega arith)),
          read_back t_deep n memory (omega arith) room,
          beside t_deep n laid.alive (omega arith) (omega arith),
          beside t_deep n laid.par (omega arith) (omega arith),
        ) refl

    fraction_written : keys_in (with_number t_fraction 0 memory)
        ≡ record (keys_in memory) { deep = number_in t_deep memory / 2 ^ f * 2 ^ f }
    fraction_written =
        let high : Field = record { at = t_fraction.at + f; len = w } in
        let deep : number_in t_deep (with_number t_fraction 0 memory) ≡ number_in t_deep memory / 2 ^ f * 2 ^ f =
        number_cut t_fraction.at w f (with_number t_fraction 0 memory)
        ∙ rw (
          read_back t_fraction 0 memory (omega arith) (pow_above f),
          number_is_kept t_fraction high 0 memory (omega arith) (inl (omega arith)),
        ) (sym (ap (λ n. n / 2 ^ f * 2 ^ f) (number_cut t_fraction.at w f memory)
        ∙ grind (arith, div-mul-add, number_is_below t_fraction memory))) in
        rw (
          number_is_kept t_fraction laid.key_b 0 memory (omega arith) (inr (omega arith)),
          number_is_kept t_fraction t_number 0 memory (omega arith) (inr (omega arith)),
          deep,
          beside t_fraction 0 laid.alive (omega arith) (omega arith),
          beside t_fraction 0 laid.par (omega arith) (omega arith),
        ) refl

    number_written : (n : ℕ) → n < 2 ^ i → keys_in (with_number t_number n memory)
        ≡ record (keys_in memory) { number = n }
    number_written n room =
        rw (
          number_is_kept t_number laid.key_b n memory (omega arith) (inr (omega arith)),
          number_is_kept t_number t_deep n memory (omega arith) (inl (omega arith)),
          read_back t_number n memory (omega arith) room,
          beside t_number n laid.alive (omega arith) (omega arith),
          beside t_number n laid.par (omega arith) (omega arith),
        ) refl

    best_written : (n : ℕ) → n < 2 ^ (w + f + i) → keys_in (with_number laid.key_b n memory)
        ≡ record (keys_in memory) { best = n }
    best_written n room =
        rw (
          number_is_kept laid.key_b t_number n memory (omega arith) (inl (omega arith)),
          number_is_kept laid.key_b t_deep n memory (omega arith) (inl (omega arith)),
          read_back laid.key_b n memory (omega arith) room,
          beside laid.key_b n laid.alive (omega arith) (omega arith),
          beside laid.key_b n laid.par (omega arith) (omega arith),
        ) refl

    alive_written : (v : Bool) → keys_in (slice_set memory laid.alive v) ≡ record (keys_in memory) { alive = v }
    alive_written v = grind (arith, number_beside_is_kept, outside, get_or-set_same, get_or-set_other)

    par_written : (v : Bool) → keys_in (slice_set memory laid.par v) ≡ record (keys_in memory) { par = v }
    par_written v = grind (arith, number_beside_is_kept, outside, get_or-set_same, get_or-set_other)

  -- key B as its parts
  pub b_parts : (depth face : ℕ) (memory : List Bool) → face < 2 ^ i →
      number_in laid.key_b memory ≡ face + 2 ^ i * (depth * 2 ^ f) →
      (number_in (depth_part laid laid.key_b) memory ≡ depth) × (number_in (number_part laid laid.key_b) memory ≡ face)
      × (number_in (fraction_part laid laid.key_b) memory ≡ 0)
  b_parts depth face memory small same =
      let number = number_in (number_part laid laid.key_b) memory in
      let deep = number_in (deep_part laid laid.key_b) memory in
      let fraction = number_in (fraction_part laid laid.key_b) memory in
      let high = number_in (depth_part laid laid.key_b) memory in
      let parts : number + 2 ^ i * deep ≡ face + 2 ^ i * (depth * 2 ^ f) =
      sym (number_cut 0 (w + f) i memory) ∙ same in
      let low = low_part i number deep face (depth * 2 ^ f) (number_is_below (number_part laid laid.key_b) memory)
      small parts in
      let whole : deep ≡ depth * 2 ^ f =
      high_part (2 ^ i) deep (depth * 2 ^ f) (pow_above i) (omega (arith, parts, low)) in
      let cut : fraction + 2 ^ f * high ≡ 0 + 2 ^ f * depth = omega (arith, number_cut (0 + i) w f memory, whole) in
      let none = low_part f fraction high 0 depth (number_is_below (fraction_part laid laid.key_b) memory)
      (pow_above f) cut in
      (high_part (2 ^ f) high depth (pow_above f) (omega (arith, cut, none)), low, none)

-- a pixel by its memory, and whether it is enabled
abbrev pub pixel : List Bool → Bool → PixelBits
pixel memory e = record { memory = memory; enable = e }

-- the pixels at which all of these forms are at least 0 stay enabled
pub signed : (forms : List Linear) (x y : ℕ) (memory : List Bool) (e : Bool)
    → after_macros (map m.KeepSign forms) x y (pixel memory e) ≡ pixel memory (e && hold_at forms x y)
signed [] x y memory e = ap (pixel memory) (sym (and_true e))
signed (f ∷ fs) x y memory e = grind (arith, signed fs x y memory (e && not (is_negative (value_at f x y))))

stays_long : (ms : List Macro) (x y : ℕ) (p : PixelBits)
    → length (after_macros ms x y p).memory ≡ length p.memory
stays_long [] x y p = refl
stays_long (m ∷ ms) x y p = stays_long ms x y (after_macro m x y p) ∙ memory_stays_long m x y p

module _ (scene : SceneView) (i x y : ℕ)
    (faces : (solid face : ℕ) → face_number (solid_of scene solid) face < 2 ^ i)
    (background : end_of (depths_of scene) * 2 ^ i < 2 ^ (scene.depth_bits + scene.fraction_bits + i)) where
  abbrev d : Depths
  d = depths_of scene

  abbrev w : ℕ
  w = scene.depth_bits

  abbrev f : ℕ
  f = scene.fraction_bits

  abbrev l : LayoutView
  l = layout_with w f i

  abbrev place : KeyedPixel
  place = record { number_bits = i; x = x; y = y }

  abbrev keys : List Bool → Keys
  keys memory = keys_in w f i memory

  abbrev IsLong : List Bool → Type 0
  IsLong memory = need_of l ≤ length memory

  -- operations behind those of the edges of a face
  covered : (s : SolidView) (face : ℕ) (behind : List Macro) (memory : List Bool) (e : Bool)
      → after_macros (keep_covered (end_of d) s face ++ behind) x y (pixel memory e)
      ≡ after_macros behind x y (pixel memory (e && covers s (end_of d) face x y))
  covered s face behind memory e = grind (arith, signed, meanings_join)

  either : (b : Bool) (changed memory : List Bool) (k : Keys) → keys changed ≡ k
      → keys (if b then changed else memory) ≡ (if b then k else keys memory)
  either true changed memory k same = same
  either false changed memory k same = refl

  -- a face becomes the candidate
  module _ (s : SolidView) (face : ℕ) (small : face_number s face < 2 ^ i) where
    abbrev form : Linear
    form = plus (face_plane s (end_of d) face) (2 ^ f - 1)

    abbrev numbered : Macro
    numbered = m.LoadConst (t_number w f i) (face_number s face)

    abbrev risen : Macro
    risen = m.SetBit l.alive true

    -- behind a depth its number, and that it is alive
    named : (memory : List Bool) (k : Keys) → IsLong memory → keys memory ≡ k
        → keys (after_macros (numbered ∷ risen ∷ []) x y (pixel memory true)).memory
        ≡ record k { number = face_number s face; alive = true }
    named memory k long same =
        let next = with_number (t_number w f i) (face_number s face) memory in
        alive_written w f i next (omega (arith, long, memory_stays_long numbered x y (pixel memory true)))
        true
        ∙ ap (λ (k : Keys). record k { alive = true }) (number_written w f i memory long (face_number s face) small
        ∙ ap (λ (k : Keys). record k { number = face_number s face }) same)

    loading : (memory : List Bool) (c : Bool) → IsLong memory
        → keys (after_macros (m.LoadLinear form (t_deep w f i)
        ∷ where_fraction d (m.LoadConst (t_fraction w f i) 0 ∷ []) ++ numbered ∷ risen ∷ []) x y
        (pixel memory c)).memory
        ≡ (if c then loaded scene place s (keys memory) face else keys memory)
    loading memory c long = elim (cases_Bool (f == 0)) [
      | inl none ↦ rw none (without c (no_fraction f none))
      | inr some ↦ rw some (with_one c)
    ]
      where
        next : List Bool
        next = with_number (t_deep w f i) (residue scene place form) memory

        next_long : IsLong next
        next_long = omega (arith, long, memory_stays_long (m.LoadLinear form (t_deep w f i)) x y (pixel memory true))

        written : keys next ≡ record (keys memory) { deep = residue scene place form }
        written = deep_written w f i memory long (residue scene place form) (modulo_below _ (w + f))

        without : (c : Bool) → f ≡ 0
            → keys (after_macros (m.LoadLinear form (t_deep w f i) ∷ numbered ∷ risen ∷ []) x y (pixel memory c)).memory
            ≡ (if c then loaded scene place s (keys memory) face else keys memory)
        without true e = named next (record (keys memory) { deep = without_fraction scene (residue scene place form) })
            next_long (written ∙ ap (λ n. record (keys memory) { deep = n })
            (rw e (omega arith)))
        without false e = refl

        with_one : (c : Bool)
            → keys (after_macros (m.LoadLinear form (t_deep w f i) ∷ m.LoadConst (t_fraction w f i) 0 ∷ numbered ∷ risen
            ∷ []) x y (pixel memory c)).memory
            ≡ (if c then loaded scene place s (keys memory) face else keys memory)
        with_one true =
            let last = with_number (t_fraction w f i) 0 next in
            named last (record (keys memory) { deep = without_fraction scene (residue scene place form) })
            (omega (arith, next_long, memory_stays_long (m.LoadConst (t_fraction w f i) 0) x y (pixel next true)))
            (fraction_written w f i next next_long
            ∙ ap (λ (k : Keys). record k { deep = without_fraction scene k.deep }) written)
        with_one false = refl

  -- an operation where a face covers and a form is not above a live candidate
  passing : (s : SolidView) (face : ℕ) (form : Linear) (operation : Macro) (change : Keys → Keys) (memory : List Bool)
      → ((e : Bool) → keys (after_macro operation x y (pixel memory e)).memory
      ≡ (if e then change (keys memory) else keys memory))
      → keys (after_macros (where_passed l (end_of d) s face form operation) x y (pixel memory true)).memory
      ≡ where_passing scene place s face form change (keys memory)
  passing s face form operation change memory done = search (rules, covered, beq_true, and_both, done, keys)

  raised : (v : Bool) (memory : List Bool) → IsLong memory → (e : Bool)
      → keys (if e then slice_set memory l.alive v else memory)
      ≡ (if e then record (keys memory) { alive = v } else keys memory)
  raised v memory long e =
      either e (slice_set memory l.alive v) memory _ (alive_written w f i memory long v)

  turned : (v : Bool) (memory : List Bool) → IsLong memory → (e : Bool)
      → keys (if e then slice_set memory l.par v else memory)
      ≡ (if e then record (keys memory) { par = v } else keys memory)
  turned v memory long e = either e (slice_set memory l.par v) memory _ (par_written w f i memory long v)

  merged : (memory : List Bool) → IsLong memory
      → keys (after_macros (operations scene l Merge) x y (pixel memory true)).memory
      ≡ after_step scene place (keys memory) Merge
  merged memory long =
      let a = bit_at memory l.alive in
      let b = number_in l.key_b memory in
      let t = number_in l.key_t memory in
      either ((true && beq a true) && nat_lt t b) (with_number l.key_b t memory) memory _
      (best_written w f i memory long t (number_is_below l.key_t memory))
      ∙ ap (λ n. if (true && beq a true) && nat_lt n b then record (keys memory) { best = n } else keys memory)
      (number_cut l.key_t.at (w + f) i memory)
      ∙ ap (λ v. if v && nat_lt (key place (keys memory).deep (keys memory).number) b
      then record (keys memory) { best = key place (keys memory).deep (keys memory).number } else keys memory)
      (beq_true a)

  -- one step, by its cases
  by_step : (step : Step) (memory : List Bool) → IsLong memory
      → keys (after_macros (operations scene l step) x y (pixel memory true)).memory
      ≡ after_step scene place (keys memory) step
  by_step Start memory long = best_written w f i memory long _ background
  by_step Open memory long = alive_written w f i memory long false
  by_step (Candidate solid face) memory long = search (rules, covered, loading, faces)
  by_step (Drop solid face) memory long = search (rules, passing, raised, m.SetBit)
  by_step Clear memory long = par_written w f i memory long false
  by_step (Front solid face) memory long = search (rules, passing, turned, m.Toggle)
  by_step Confirm memory long = raised false memory long (beq (bit_at memory l.par) false)
  by_step (Begin other) memory long = par_written w f i memory long false
  by_step (Turn other solid face) memory long = search (rules, passing, turned, m.Toggle)
  by_step x memory long = grind (arith, raised, beq, merged)

  -- whether a pixel was enabled before a step does not matter
  anew : (step : Step) (p : PixelBits) → after_macros (operations scene l step) x y p
      ≡ after_macros (operations scene l step) x y (pixel p.memory true)
  anew x p = grind arith

  -- steps one after another
  pub all_steps : (steps : List Step) (p : PixelBits) → IsLong p.memory
      → keys (after_macros (flat_map (operations scene l) steps) x y p).memory
      ≡ after_steps scene place (keys p.memory) steps
  all_steps [] p long = refl
  all_steps (step ∷ steps) p long =
      let own = operations scene l step in
      let next = after_macros own x y p in
      grind (arith, anew, by_step, meanings_join, all_steps steps next (omega (arith, long, stays_long own x y p)))

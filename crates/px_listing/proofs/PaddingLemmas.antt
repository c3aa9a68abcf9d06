-- Operations that few memory bits can carry out, on a longer memory: its first bits come out alike, and the
-- others stay.
use Rattle.px_num.proofs.Basics.{◌≡◌, ℕ, suc, ◌+◌, ◌-◌, ◌<◌, ◌≤◌, All, Bool, false, true, if◌then◌else◌, List, [], ◌∷◌}
use Rattle.px_num.proofs.Basics.{◌++◌, length, replicate, slice_set, inl, inr, refl, ap, sym, subst, ◌∙◌, arith}
use Rattle.px_num.proofs.Basics.{length-append, cases_lt, nat_tests, get_or-append_right, get_or-replicate}
use Rattle.px_num.proofs.Basics.{get_or_append_left, get_or_past, length-replicate}
use Rattle.px_listing.proofs.Words.{after_macro, after_macros, bit_at, HasSight, is_tabulate, IsLawful, LayoutView}
use Rattle.px_listing.proofs.Words.{length-tabulate, Macro, MemoryStaysLong, nat_bit, PixelBits, set-append_left}
use Rattle.px_listing.proofs.Words.{Sight}
use Rattle.px_macro.specs.Fields.{is_in, number_in, with_number}
use Rattle.px_macro.specs.declared.field.Field.{Field}
use Rattle.px_macro.proofs.NumberLaws.{number_same, places_are_written}
use Rattle.px_macro.specs.declared.operation.Macro.TheVariants as m

-- a pixel with more bits of memory
abbrev pub padded : PixelBits → List Bool → PixelBits
padded p more = record { memory = p.memory ++ more; enable = p.enable }

bit_padded : (xs ys : List Bool) (at : ℕ) → at < length xs → bit_at (xs ++ ys) at ≡ bit_at xs at
bit_padded xs ys at low = get_or_append_left xs ys false at low

number_padded : (f : Field) (xs ys : List Bool) → f.at + f.len ≤ length xs → number_in f (xs ++ ys) ≡ number_in f xs
number_padded f xs ys within = grind (arith, number_same, bit_padded)

beside : (f : Field) (place : ℕ) → f.at + f.len ≤ place → is_in f place ≡ false
beside f place past = grind (arith, nat_tests)

written_padded : (f : Field) (n : ℕ) (xs ys : List Bool) → f.at + f.len ≤ length xs
    → with_number f n (xs ++ ys) ≡ with_number f n xs ++ ys
written_padded f n xs ys within =
    let bits : ℕ → Bool = λ place. if is_in f place then nat_bit n (place - f.at) else bit_at (xs ++ ys) place in
    let long : length (with_number f n xs) ≡ length xs = length-tabulate (length xs) _ in
    sym (is_tabulate (with_number f n xs ++ ys) (length (xs ++ ys)) bits false
    (omega (arith, length-append (with_number f n xs) ys, length-append xs ys, long))
    (λ k low. elim (cases_lt k (length xs)) [
      | inl less ↦ get_or_append_left (with_number f n xs) ys false k (omega (arith, long))
          ∙ places_are_written f n xs k less
          ∙ ap (λ b. if is_in f k then nat_bit n (k - f.at) else b) (sym (bit_padded xs ys k less))
      | inr past ↦
          let out : is_in f k ≡ false = beside f k (omega arith) in
          get_or-append_right (with_number f n xs) ys (length xs) k false long past
          ∙ sym (get_or-append_right xs ys (length xs) k false refl past) ∙ rw out refl
    ]))

put_padded : (enable : Bool) (f : Field) (n : ℕ) (xs ys : List Bool) → f.at + f.len ≤ length xs
    → (if enable then with_number f n (xs ++ ys) else xs ++ ys) ≡ (if enable then with_number f n xs else xs) ++ ys
put_padded true f n xs ys within = written_padded f n xs ys within
put_padded false f n xs ys within = refl

bit_put_padded : (enable : Bool) (at : ℕ) (v : Bool) (xs ys : List Bool) → at < length xs
    → (if enable then slice_set (xs ++ ys) at v else xs ++ ys) ≡ (if enable then slice_set xs at v else xs) ++ ys
bit_put_padded true at v xs ys low = set-append_left xs ys at v low
bit_put_padded false at v xs ys low = refl

-- the memory that comes out
abbrev holding : Bool → List Bool → PixelBits
holding enable memory = record { memory = memory; enable = enable }

after_padded : (op : Macro) (x y : ℕ) (p : PixelBits) (more : List Bool) → IsLawful op (length p.memory)
    → after_macro op x y (padded p more) ≡ padded (after_macro op x y p) more
after_padded (m.KeepBit at v) x y p more lawful = rw (bit_padded p.memory more at lawful) refl
after_padded (m.LoadLinear form f) x y p more lawful =
    ap (holding p.enable) (put_padded p.enable f _ p.memory more lawful.1.within)
after_padded (m.KeepAtMost form f) x y p more lawful = rw (number_padded f p.memory more lawful.1.within) refl
after_padded (m.AddLinear form f) x y p more lawful =
    rw (number_padded f p.memory more lawful.1.within)
    (ap (holding p.enable) (put_padded p.enable f _ p.memory more lawful.1.within))
after_padded (m.LoadConst f c) x y p more lawful =
    ap (holding p.enable) (put_padded p.enable f c p.memory more lawful.0.within)
after_padded (m.SetBit at v) x y p more lawful =
    ap (holding p.enable) (bit_put_padded p.enable at v p.memory more lawful)
after_padded (m.Toggle at) x y p more lawful = grind (arith, bit_padded, bit_put_padded)
after_padded (m.Copy f g) x y p more lawful =
    rw (number_padded f p.memory more lawful.0.fields.0.within)
    (ap (holding p.enable) (put_padded p.enable g _ p.memory more lawful.0.fields.1.within))
after_padded (m.KeepLess f g) x y p more lawful =
    rw (number_padded f p.memory more lawful.fields.0.within, number_padded g p.memory more lawful.fields.1.within) refl
after_padded op x y p more lawful = refl

pub all_padded : MemoryStaysLong → (ops : List Macro) (x y : ℕ) (p : PixelBits) (more : List Bool)
    → All (λ op. IsLawful op (length p.memory)) ops
    → after_macros ops x y (padded p more) ≡ padded (after_macros ops x y p) more
all_padded stays [] x y p more lawful = refl
all_padded stays (op ∷ ops) x y p more lawful =
    let rest : All (λ q. IsLawful q (length p.memory)) ops = λ k d low. lawful (suc k) d (omega arith) in
    ap (after_macros ops x y) (after_padded op x y p more (lawful 0 op (omega arith)))
    ∙ all_padded stays ops x y (after_macro op x y p) more
    (subst (λ n. All (λ q. IsLawful q n) ops) (sym (stays op x y p)) rest)

-- zeros behind a memory change no number in it, since every place behind it reads as 0
zero_behind : (xs : List Bool) (n at : ℕ) → bit_at (xs ++ replicate n false) at ≡ bit_at xs at
zero_behind xs n at = grind (arith, bit_padded, get_or-append_right, get_or_past, get_or-replicate, length-replicate)

number_same_behind : (f : Field) (xs : List Bool) (n : ℕ) → number_in f (xs ++ replicate n false) ≡ number_in f xs
number_same_behind f xs n = grind (arith, number_same, zero_behind)

pub sight_same : (l : LayoutView) (xs : List Bool) (n : ℕ) (sight : Sight) → HasSight l (xs ++ replicate n false) sight
    → HasSight l xs sight
sight_same l xs n sight has = grind (arith, number_same_behind)

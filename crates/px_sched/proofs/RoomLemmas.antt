-- The numbers of the keys have room in their bits.
use Rattle.px_num.proofs.Basics.{◌≡◌, ℕ, suc, zero, ◌+◌, ◌*◌, ◌^◌, ◌<◌, ◌≤◌, Bool, true, false, cond, nat_le, count_by}
use Rattle.px_num.proofs.Basics.{[], ◌∙◌, ◌∷◌, ◌++◌, add-one, length, refl, ap, sym, inl, inr, arith, range_with_len}
use Rattle.px_num.proofs.Basics.{cases_lt, get_or_past, All-append, All-cons, All-map, All-push, pow-add}
use Rattle.px_sched.proofs.Words.{bit_length, Face, face_number, faces_in, faces_of, IsLawfulScene, IsNumberedFrom}
use Rattle.px_sched.proofs.Words.{le_false, le_true, numbers_in_faces, pow_above, SceneView, solid_of, SolidView}
use Rattle.px_sched.proofs.LawfulLaws.{all_or}
use Rattle.px_sched.proofs.LayoutLaws.{counted, passed_over}
use Rattle.px_sched.proofs.ProductLaws.{numbered_at}

number_below : (first : ℕ) (s : SolidView) → IsNumberedFrom first s → (face : ℕ)
    → face_number s face < first + faces_in s
number_below first s h =
    let P : ℕ → Type 0 = λ n. n < first + faces_in s in
    let fronts = numbers_in_faces s.fronts in
    let backs = numbers_in_faces s.backs in
    all_or P ((s.near_number ∷ fronts) ++ (backs ++ 0 ∷ [])) 0
    (All-append P (s.near_number ∷ fronts) (backs ++ 0 ∷ [])
    (All-cons P s.near_number fronts (omega (arith, h.near)) (All-map P (λ (f : Face). f.number) s.fronts h.fronts))
    (All-push P backs 0 (All-map P (λ (f : Face). f.number) s.backs h.backs) (omega arith)))
    (omega arith)

number_in_scene : (scene : SceneView) → IsLawfulScene scene → (solid face : ℕ)
    → face_number (solid_of scene solid) face ≤ faces_of scene.solids
number_in_scene scene lawful solid face = elim (cases_lt solid (length scene.solids)) [
  | inl there ↦
      let at = numbered_at scene.solids 1 solid lawful.numbers there in
      omega (arith, at.within, number_below at.first (solid_of scene solid) at.numbers face)
  | inr past ↦ grind (arith, get_or_past)
]

-- of the powers of 2 below a bound, those that are not above n
abbrev powers : (n bound : ℕ) → ℕ
powers n bound = count_by (λ t. nat_le (2 ^ t) n) (range_with_len 0 bound)

one_more : (n bound : ℕ) (b : Bool) → nat_le (2 ^ bound) n ≡ b → powers n (suc bound) ≡ powers n bound + cond b 1 0
one_more n bound true is =
    ap (powers n) (sym (add-one bound)) ∙ sym (counted (λ t. nat_le (2 ^ t) n) bound (powers n bound) refl is)
one_more n bound false is =
    ap (powers n) (sym (add-one bound)) ∙ sym (passed_over (λ t. nat_le (2 ^ t) n) bound (powers n bound) refl is)
    ∙ omega arith

all_counted : (n bound : ℕ) → 2 ^ bound ≤ n → powers n (suc bound) ≡ suc bound
all_counted n zero h = one_more n 0 true (le_true (2 ^ 0) n h)
all_counted n (suc bound) h =
    omega (arith, one_more n (suc bound) true (le_true (2 ^ suc bound) n h), all_counted n bound (omega arith))

below_power : (n bound : ℕ) → n < 2 ^ bound → n < 2 ^ powers n bound
below_power n zero h = h
below_power n (suc bound) h = elim (cases_lt n (2 ^ bound)) [
  | inl below ↦
      let same : powers n (suc bound) ≡ powers n bound =
      omega (arith, one_more n bound false (le_false (2 ^ bound) n below)) in
      rw same (below_power n bound below)
  | inr above ↦ rw (all_counted n bound above) h
]

-- a face number has room in the bits of the greatest one
pub bits_enough : (n : ℕ) → n ≤ 4095 → n < 2 ^ bit_length n
bits_enough n h = below_power n 12 (omega arith)

pub numbers_fit : (scene : SceneView) → IsLawfulScene scene → (solid face : ℕ)
    → face_number (solid_of scene solid) face < 2 ^ bit_length (faces_of scene.solids)
numbers_fit scene lawful solid face =
    omega (arith, number_in_scene scene lawful solid face, bits_enough (faces_of scene.solids) lawful.faces)

-- a depth before the bits of a number
pub shifted : (depth w i : ℕ) → depth < 2 ^ w → depth * 2 ^ i < 2 ^ (w + i)
shifted depth w i small = rw (pow-add 2 w i) (grind (arith, pow_above i))

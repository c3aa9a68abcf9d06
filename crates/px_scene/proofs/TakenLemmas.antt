-- What a draft keeps over a good line.
use Rattle.px_num.proofs.Basics.{nat_tests, common_steps, ◌≡◌, ℕ, ℤ, pos, ◌≤ℤ◌, ◌+◌, ◌-◌, ◌<◌, ◌≤◌, List, [], ◌∷◌}
use Rattle.px_num.proofs.Basics.{length, true, refl, ap, arith, slice_get, IfSome, None, add-zero, ints}
use Rattle.px_scene.proofs.Words.{AreNumberedFrom, CanTakeFace, Due, face_limit, face_past, faces_in, faces_of}
use Rattle.px_scene.proofs.Words.{faces_of-cons, fraction_past, is_begun, is_due, is_ended, IsNumberedFrom, LimitKind}
use Rattle.px_scene.proofs.Words.{most, names_of, none_first, none_second, past, Plane, size_of, SolidView, with_last}
use Rattle.px_scene.specs.declared.line.Keyword.TheVariants as k

pub at_most : (limit : LimitKind) (high found : ℕ) → most limit high found ≡ None → found ≤ high
at_most limit high found e = grind (arith, ints)

-- what no limit on a line of a face says
pub record FaceRoom (p : Plane) (faces numbered : ℕ) : Type 0 where
  pub within : face_past p ≡ None
  pub room : faces < 32
  pub next : numbered < 4095

pub face_room : (limit : LimitKind) (faces numbered : ℕ) (p : Plane) → face_limit limit faces numbered p ≡ None
    → FaceRoom p faces numbered
face_room limit faces numbered p e = grind (arith, none_first, at_most, none_second)

-- what no limit on the line of a solid says
pub record SolidRoom (before numbered : ℕ) : Type 0 where
  pub solids : before < 255
  pub numbers : numbered < 4095

-- the last solid can take the number behind all the faces
pub last_can_take : (first : ℕ) (ss : List SolidView) → AreNumberedFrom first ss → 0 < length ss
    → IfSome (slice_get ss (length ss - 1)) (CanTakeFace (first + faces_of ss))
last_can_take first [] are some = absurd (omega arith)
last_can_take first (s ∷ []) are some = grind (arith, faces_of-cons, add-zero)
last_can_take first (s ∷ t ∷ ss) are some =
    grind (arith, nat_tests, common_steps, last_can_take (first + faces_in s) (t ∷ ss) are.1 (omega arith))

-- lines that come only after a solid's
pub begun_front : (due : Due) → is_due due k.Front ≡ true → is_begun due ≡ true
begun_front x e = grind arith

pub begun_back : (due : Due) → is_due due k.Back ≡ true → is_begun due ≡ true
begun_back x e = grind arith

pub begun_side : (due : Due) → is_due due k.Side ≡ true → is_begun due ≡ true
begun_side x e = grind arith

pub ended_end : (due : Due) → is_due due k.End ≡ true → is_ended due ≡ true
ended_end x e = grind arith

pub begun_end : (due : Due) → is_due due k.End ≡ true → is_begun due ≡ true
begun_end x e = grind arith

pub names_with_last : (change : SolidView → SolidView) → ((s : SolidView) → (change s).name ≡ s.name)
    → (ss : List SolidView) → names_of (with_last change ss) ≡ names_of ss
names_with_last change keeps [] = refl
names_with_last change keeps (s ∷ []) = ap (λ n. n ∷ []) (keeps s)
names_with_last change keeps (s ∷ t ∷ ss) = ap (λ ns. s.name ∷ ns) (names_with_last change keeps (t ∷ ss))

-- a face of the next number behind the last solid's
pub numbered_last : (change : SolidView → SolidView) (first : ℕ) (ss : List SolidView) → AreNumberedFrom first ss
    → 0 < length ss
    → ((n : ℕ) (s : SolidView) → n + faces_in s ≡ first + faces_of ss → IsNumberedFrom n s
    → IsNumberedFrom n (change s))
    → AreNumberedFrom first (with_last change ss)
numbered_last change first [] are some step = absurd (omega arith)
numbered_last change first (s ∷ []) are some step = (step first s (omega (arith, faces_of-cons s [])) are.0, tt)
numbered_last change first (s ∷ t ∷ ss) are some step = (
  are.0,
  numbered_last change (first + faces_in s) (t ∷ ss) are.1 (omega arith)
      (λ n q e is. step n q (omega (arith, faces_of-cons s (t ∷ ss))) is),
)

pub faces_of-with_last : (change : SolidView → SolidView) (more : ℕ) → ((s : SolidView) → faces_in (change s)
    ≡ faces_in s + more) → (ss : List SolidView) → 0 < length ss → faces_of (with_last change ss) ≡ faces_of ss + more
faces_of-with_last change more grows [] some = absurd (omega arith)
faces_of-with_last change more grows (s ∷ []) some =
    omega (arith, faces_of-cons s [], faces_of-cons (change s) [], grows s)
faces_of-with_last change more grows (s ∷ t ∷ ss) some =
    grind (arith, nat_tests, common_steps, faces_of-cons, faces_of-with_last change more grows (t ∷ ss) (omega arith))

pub record IsBetween (least most z : ℤ) : Type 0 where
  pub above : least ≤ℤ z
  pub below : z ≤ℤ most

pub past_none : (limit : LimitKind) (least most z : ℤ) → past limit least most z ≡ None → IsBetween least most z
past_none limit least most z e = record { above = grind (arith, ints); below = grind (arith, ints) }

-- a size within a limit
pub size_within : (limit : LimitKind) (most : ℕ) (z : ℤ) → past limit (pos 1) (pos most) z ≡ None → (1 ≤ size_of z)
    × (size_of z ≤ most)
size_within limit most x e = grind (arith, past_none)

-- fraction bits within their limit, with the bits of a depth within theirs
pub fraction_within : (bits fraction : ℤ) → fraction_past bits fraction ≡ None → 1 ≤ size_of bits → size_of bits ≤ 24
    → (size_of bits + size_of fraction ≤ 24) × (size_of fraction ≤ 8)
fraction_within bits x e some most = grind (arith, past_none)

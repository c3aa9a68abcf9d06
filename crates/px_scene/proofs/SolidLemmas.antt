-- The solids of a draft stay lawful over a good line.
use Rattle.px_num.proofs.Basics.{rules}
use Rattle.px_num.proofs.Basics.{nat_tests, common_steps, suc, ◌≡◌, ℕ, ℤ, pos, ◌-◌, ◌<◌, List, [], ◌∷◌, ◌++◌, length}
use Rattle.px_num.proofs.Basics.{Option, None, arith, slice_get, IfSome, All, length-append, ints, All-cons}
use Rattle.px_num.proofs.Basics.{All-head, All-nil, All-tail, option_map_or}
use Rattle.px_scene.proofs.Words.{CanTakeFace, colour_of, colour_past, Face, face_past, faces_pushed, fresh_solid}
use Rattle.px_scene.proofs.Words.{IsColour, IsLawfulSolid, IsPlane, Linear, none_first, none_second, Paint, past}
use Rattle.px_scene.proofs.Words.{Plane, plane_past, size_of, SolidView, with_back, with_front, with_last, with_side}
use Rattle.px_model.specs.declared.solid.Colour.{Colour}
use Rattle.px_scene.proofs.TakenLemmas.{past_none}
use Rattle.px_show.specs.declared.fault.LimitKind.TheVariants as kind

part_within : (z : ℤ) → past kind.Colour (pos 0) (pos 255) z ≡ None → size_of z < 256
part_within x e = grind (arith, past_none, pos, ints)

plane_within : (p : Linear) → plane_past p ≡ None → IsPlane p
plane_within p e = grind (arith, none_first, past_none, none_second)

-- the colour of a line that has one, otherwise its solid's
face_colour : (colour : Colour) (paint : Option Paint) → IsColour colour → option_map_or colour_past paint None ≡ None
    → IsColour (option_map_or colour_of paint colour)
face_colour colour x is e = grind (arith, none_first, part_within, none_second)

-- a front, a back or a side more
front_added : (s : SolidView) (f : Face) → IsLawfulSolid s → length s.fronts < 32 → CanTakeFace f.number s
    → IsPlane f.plane → IsColour f.colour → IsLawfulSolid (record s { fronts = s.fronts ++ f ∷ [] })
front_added s f is room can plane colour = search (rules, faces_pushed)

back_added : (s : SolidView) (f : Face) → IsLawfulSolid s → length s.backs < 32 → CanTakeFace f.number s
    → IsPlane f.plane → IsColour f.colour → IsLawfulSolid (record s { backs = s.backs ++ f ∷ [] })
back_added s f is room can plane colour = search (rules, faces_pushed)

-- the same of the last solid of some, where there is one
pub last_front : (o : Option SolidView) (number : ℕ) (p : Plane) → face_past p ≡ None
    → option_map_or (λ (s : SolidView). length s.fronts) o 0 < 32 → IfSome o (CanTakeFace number)
    → IfSome o (λ s. IsLawfulSolid s → IsLawfulSolid (with_front number p s))
last_front o number p e room can = grind (arith, nat_tests, common_steps, front_added, plane_within, none_first, none_second)

pub last_back : (o : Option SolidView) (number : ℕ) (p : Plane) → face_past p ≡ None
    → option_map_or (λ (s : SolidView). length s.backs) o 0 < 32 → IfSome o (CanTakeFace number)
    → IfSome o (λ s. IsLawfulSolid s → IsLawfulSolid (with_back number p s))
last_back o number p e room can = grind (arith, nat_tests, common_steps, back_added, plane_within, none_first, none_second)

pub last_side : (o : Option SolidView) (p : Linear) → plane_past p ≡ None
    → option_map_or (λ (s : SolidView). length s.sides) o 0 < 32
    → IfSome o (λ s. IsLawfulSolid s → IsLawfulSolid (with_side p s))
last_side x p e room = grind (arith, nat_tests, common_steps, length-append)

-- a change of the last solid keeps all lawful, where it keeps that one
pub lawful_last : (change : SolidView → SolidView) (ss : List SolidView)
    → IfSome (slice_get ss (length ss - 1)) (λ s. IsLawfulSolid s → IsLawfulSolid (change s)) → All IsLawfulSolid ss
    → All IsLawfulSolid (with_last change ss)
lawful_last change [] keeps all = all
lawful_last change (s ∷ []) keeps all =
    All-cons IsLawfulSolid (change s) [] (keeps (All-head IsLawfulSolid s [] all)) (All-nil IsLawfulSolid)
lawful_last change (s ∷ t ∷ ss) keeps all =
    let place : length (s ∷ t ∷ ss) - 1 ≡ suc (length (t ∷ ss) - 1) = omega arith in
    All-cons IsLawfulSolid s (with_last change (t ∷ ss)) (All-head IsLawfulSolid s (t ∷ ss) all)
    (lawful_last change (t ∷ ss) (rw place at keeps) (All-tail IsLawfulSolid s (t ∷ ss) all))

pub head_lawful : (name : List ℕ) (number : ℕ) (paint : Paint) → colour_past paint ≡ None
    → IsLawfulSolid (fresh_solid name number (colour_of paint))
head_lawful name number paint e = grind arith

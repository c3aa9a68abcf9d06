-- The lines of a solid's faces, in the order of their numbers.
use Rattle.px_num.proofs.Basics.{◌≡◌, ℕ, ◌+◌, ◌<◌, ◌≤◌, List, [], ◌∷◌, ◌++◌, length, Bool, true, false, not, codes}
use Rattle.px_num.proofs.Basics.{map, refl, ap, sym, subst, arith, append-nil, length-append, zero, suc, All, flat_map}
use Rattle.px_num.proofs.Basics.{range_with_len}
use Rattle.px_scene.proofs.CanonicalWords.{AreFaces, DraftView, Face, has_number, IsColour, IsLawfulSolid, IsPlane}
use Rattle.px_scene.proofs.CanonicalWords.{SolidView, Words}
use Rattle.px_scene.proofs.CutLemmas.{below, at_number, HasOne, cut, few_below}
use Rattle.px_scene.proofs.WalkLaws.{Walk, walk_both}
use Rattle.px_scene.proofs.RoundLaws.{Writes, back_walk, face_words, face_written, front_walk, open_solid}
use Rattle.px_scene.proofs.RoundLaws.{plane_for}

-- a solid with its faces below a number, and no side
abbrev pub part : SolidView → ℕ → SolidView
part s m = record {
  name = s.name;
  colour = s.colour;
  near_number = s.near_number;
  fronts = below m s.fronts;
  backs = below m s.backs;
  sides = [];
}

abbrev pub words_at : List ℕ → List Face → ℕ → List Words
words_at kind faces m = map (λ f. kind ∷ face_words f) (at_number m faces)

abbrev pub words_of_number : SolidView → ℕ → List Words
words_of_number s m = words_at (codes "front") s.fronts m ++ words_at (codes "back") s.backs m

writable : (near m : ℕ) (faces : List Face) → AreFaces near faces → All (λ f. IsColour f.colour) faces
    → (one : HasOne m faces) → Writes (face_words one.face) (plane_for one.face)
writable near m faces are colours one =
    let plane = are.planes one.place one.face one.within
    in let colour = colours one.place one.face one.within
    in face_written one.face (subst (λ (f : Face). IsPlane f.plane) (one.read one.face) plane)
    (subst (λ (f : Face). IsColour f.colour) (one.read one.face) colour)

-- the words of one number's line
face_walk : (start : DraftView) (done : List SolidView) (s : SolidView) (n : ℕ) (is : Bool) → IsLawfulSolid s → n < 4095
    → has_number s.fronts (n + 1) ≡ is → has_number s.backs (n + 1) ≡ not is
    → Walk (open_solid start done (part s (n + 1)) n) (words_of_number s (n + 1))
    (open_solid start done (part s (n + 1 + 1)) (n + 1))
face_walk start done s n true ok few front back =
    let fronts = cut (n + 1) s.fronts ok.fronts.order
    in let backs = cut (n + 1) s.backs ok.backs.order
    in let one = fronts.present front
    in let none = backs.absent back
    in let grown : below (n + 1 + 1) s.fronts ≡ below (n + 1) s.fronts ++ one.face ∷ [] = grind (arith, below)
    in let kept : below (n + 1 + 1) s.backs ≡ below (n + 1) s.backs = grind (arith, below, append-nil)
    in let room : length (below (n + 1) s.fronts) < 32 = let some = ok.fronts.few
    in omega (
      arith,
      ap length grown,
      length-append (below (n + 1) s.fronts) (one.face ∷ []),
      few_below (n + 1 + 1) s.fronts,
    )
    in let face = writable s.near_number (n + 1) s.fronts ok.fronts ok.fronts.colours one
    in let more = λ (m : ℕ). record (part s (n + 1)) {
      fronts = below (n + 1) s.fronts ++ record one.face { number = m } ∷ [];
    }
    in rw (one.only, none, grown, kept)
    (subst (λ (m : ℕ). Walk (open_solid start done (part s (n + 1)) n) ((codes "front" ∷ face_words one.face) ∷ [])
    (open_solid start done (more m) (n + 1))) (sym one.number)
    (front_walk start done (part s (n + 1)) n (face_words one.face) (plane_for one.face) face room few))
face_walk start done s n false ok few front back =
    let fronts = cut (n + 1) s.fronts ok.fronts.order
    in let backs = cut (n + 1) s.backs ok.backs.order
    in let one = backs.present back
    in let none = fronts.absent front
    in let grown : below (n + 1 + 1) s.backs ≡ below (n + 1) s.backs ++ one.face ∷ [] = grind (arith, below)
    in let kept : below (n + 1 + 1) s.fronts ≡ below (n + 1) s.fronts = grind (arith, below, append-nil)
    in let room : length (below (n + 1) s.backs) < 32 = let some = ok.backs.few
    in omega (
      arith,
      ap length grown,
      length-append (below (n + 1) s.backs) (one.face ∷ []),
      few_below (n + 1 + 1) s.backs,
    )
    in let face = writable s.near_number (n + 1) s.backs ok.backs ok.backs.colours one
    in let more = λ (m : ℕ). record (part s (n + 1)) {
      backs = below (n + 1) s.backs ++ record one.face { number = m } ∷ [];
    }
    in rw (one.only, none, grown, kept)
    (subst (λ (m : ℕ). Walk (open_solid start done (part s (n + 1)) n) ((codes "back" ∷ face_words one.face) ∷ [])
    (open_solid start done (more m) (n + 1))) (sym one.number)
    (back_walk start done (part s (n + 1)) n (face_words one.face) (plane_for one.face) face room few))

-- so many numbers from one on, each of which some face has
pub faces_walk : (start : DraftView) (done : List SolidView) (s : SolidView) (count n : ℕ) → IsLawfulSolid s
    → n + count ≤ 4095 → ((m : ℕ) → n < m → m ≤ n + count → has_number s.fronts m ≡ not (has_number s.backs m))
    → Walk (open_solid start done (part s (n + 1)) n) (flat_map (words_of_number s) (range_with_len (n + 1) count))
    (open_solid start done (part s (n + count + 1)) (n + count))
faces_walk start done s zero n ok most once = grind (arith, open_solid)
faces_walk start done s (suc count) n ok most once =
    let first = face_walk start done s n (has_number s.fronts (n + 1)) ok (omega arith) refl
    (other (has_number s.fronts (n + 1)) (has_number s.backs (n + 1)) (once (n + 1) (omega arith) (omega arith)))
    in let later = faces_walk start done s count (n + 1) ok (omega arith)
    (λ m over under. once m (omega arith) (omega arith))
    in let same : n + 1 + count ≡ n + suc count = omega arith
    in grind (arith, open_solid, walk_both)
  where
    other : (a b : Bool) → a ≡ not b → b ≡ not a
    other true false e = refl
    other false true e = refl
    other true true e = cc
    other false false e = cc

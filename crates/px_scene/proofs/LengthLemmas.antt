-- The canonical text of a scene is within the limit of texts.
use Rattle.std.proofs.Common.{tests}
use Rattle.px_num.proofs.Basics.{rules}
use Rattle.px_num.proofs.Basics.{◌≡◌, ℕ, ◌+◌, ◌*◌, ◌<◌, ◌≤◌, ◌^◌, List, [], ◌∷◌, ◌++◌, length, Bool, true, false, not}
use Rattle.px_num.proofs.Basics.{codes, decimal, get_or, refl, arith, length-append, zero, suc, All, AllPass}
use Rattle.px_num.proofs.Basics.{flat_map, range_with_len, length-map}
use Rattle.px_scene.proofs.CanonicalWords.{AreNumberedFrom, canonical_text, colour_words, depth_words, Face, face_line}
use Rattle.px_scene.proofs.CanonicalWords.{face_lines_at, faces_in, faces_of, faces_of-cons, has_number, is_name}
use Rattle.px_scene.proofs.CanonicalWords.{IsColour}
use Rattle.px_scene.proofs.CanonicalWords.{IsLawfulSolid, IsNumberedFrom, IsPlane, IsWritable, Linear, lines_of_number}
use Rattle.px_scene.proofs.CanonicalWords.{names_of, SceneView, side_line, solid_lines, SolidView, spaced, Version}
use Rattle.px_scene.proofs.CanonicalWords.{version_word, Words, words_of_plane, written_line}
use Rattle.px_scene.proofs.CutLemmas.{HasOne, cut}
use Rattle.px_scene.proofs.LengthLaws.{joined, decimal_short, plane_short, colour_short, line_short, name_short}
use Rattle.px_scene.proofs.LengthLaws.{tree_short}

spaced_both : (vs ws : Words) (m n : ℕ) → length (spaced vs) ≤ m → length (spaced ws) ≤ n
    → length (spaced (vs ++ ws)) ≤ m + n
spaced_both [] ws m n some more = omega arith
spaced_both (v ∷ vs) ws m n some more =
    grind (arith, length-append, spaced_both vs ws (length (spaced vs)) n (omega arith) more)

face_short : (kind : List ℕ) (f : Face) → length kind ≤ 5 → IsPlane f.plane → IsColour f.colour
    → length (face_line kind f) ≤ 54
face_short kind f few plane colour =
    line_short kind (words_of_plane f.plane ++ colour_words f.colour) 5 48 few
    (spaced_both (words_of_plane f.plane) (colour_words f.colour) 36 12 (plane_short f.plane plane)
    (colour_short f.colour colour))

sides_short : (ps : List Linear) → All IsPlane ps → length (flat_map side_line ps) ≤ 41 * length ps
sides_short [] all = omega arith
sides_short (p ∷ ps) all =
    let here = line_short (codes "side") (words_of_plane p) 4 36 (omega arith) (plane_short p (all 0 p (omega arith)))
    in let later = sides_short ps (λ k d lt. all (suc k) d (omega arith))
    in omega (arith, length-append (side_line p) (flat_map side_line ps))

-- the lines of the one face that has a number
one_short : (kind : List ℕ) (m : ℕ) (faces : List Face) → length kind ≤ 5 → All (λ f. IsPlane f.plane) faces
    → All (λ f. IsColour f.colour) faces → HasOne m faces → length (face_lines_at kind faces m) ≤ 54
one_short kind m faces few planes colours one = search (rules, tests, arith, face_short, get_or) depth 8

number_short : (s : SolidView) (m : ℕ) (is : Bool) → IsLawfulSolid s → has_number s.fronts m ≡ is
    → has_number s.backs m ≡ not is → length (lines_of_number s m) ≤ 54
number_short s m true ok front back =
    let one = (cut m s.fronts ok.fronts.order).present front
    in let none = (cut m s.backs ok.backs.order).absent back
    in grind (arith, joined, codes, one_short)
number_short s m false ok front back =
    let one = (cut m s.backs ok.backs.order).present back
    in let none = (cut m s.fronts ok.fronts.order).absent front
    in grind (arith, joined, codes, one_short)

numbers_short : (s : SolidView) (count n : ℕ) → IsLawfulSolid s
    → ((m : ℕ) → n < m → m ≤ n + count → has_number s.fronts m ≡ not (has_number s.backs m))
    → length (flat_map (lines_of_number s) (range_with_len (n + 1) count)) ≤ 54 * count
numbers_short s zero n ok once = omega arith
numbers_short s (suc count) n ok once =
    let back = other (has_number s.fronts (n + 1)) (has_number s.backs (n + 1))
    (once (n + 1) (omega arith) (omega arith))
    in let here = number_short s (n + 1) (has_number s.fronts (n + 1)) ok refl back
    in let later = numbers_short s count (n + 1) ok (λ m over under. once m (omega arith) (omega arith))
    in grind (arith, length-append)
  where
    other : (a b : Bool) → a ≡ not b → b ≡ not a
    other true false e = refl
    other false true e = refl
    other true true e = cc
    other false false e = cc

solid_short : (s : SolidView) (first : ℕ) → IsLawfulSolid s → IsNumberedFrom first s → is_name s.name ≡ true
    → length (solid_lines s) ≤ 1400 + 54 * faces_in s
solid_short s first ok is name =
    grind (arith, line_short, codes, joined, name_short, colour_short, numbers_short, sides_short, length-append)

solids_short : (ss : List SolidView) (first : ℕ) → All IsLawfulSolid ss → AreNumberedFrom first ss
    → AllPass is_name (names_of ss) → length (flat_map solid_lines ss) ≤ 1400 * length ss + 54 * faces_of ss
solids_short [] first ok are names = omega arith
solids_short (s ∷ ss) first ok are names =
    let counted = faces_of-cons s ss
    in let here = solid_short s first (ok 0 s (omega arith)) are.0 (names 0 [] (omega arith))
    in let later = solids_short ss (first + faces_in s) (λ k d lt. ok (suc k) d (omega arith)) are.1
    (λ k d lt. names (suc k) d (omega arith))
    in omega (arith, length-append (solid_lines s) (flat_map solid_lines ss))

version_short : (version : Version) → length (spaced (version_word version ∷ [])) ≤ 2
version_short version = grind arith

depth_short : (version : Version) (bits fraction : ℕ) → bits ≤ 512 → fraction ≤ 512
    → length (spaced (depth_words version bits fraction)) ≤ 8
depth_short version bits fraction h p = grind (arith, joined, decimal_short)

pub begin_short : (version : Version) (width height bits fraction : ℕ) → width ≤ 512 → height ≤ 512 → bits ≤ 512
    → fraction ≤ 512
    → length (written_line (codes "pxscene") (version_word version ∷ [])
    ++ written_line (codes "picture") (decimal width ∷ decimal height ∷ [])
    ++ written_line (codes "depth") (depth_words version bits fraction)) ≤ 40
begin_short version width height bits fraction w h b f =
    grind (arith, joined, line_short, codes, version_short, decimal_short, depth_short)

pub canonical_short : (scene : SceneView) → IsWritable scene → length (canonical_text scene) ≤ 2 ^ 20
canonical_short scene is =
    grind (arith, length-map, tree_short, begin_short, solids_short, line_short, codes, length-append)

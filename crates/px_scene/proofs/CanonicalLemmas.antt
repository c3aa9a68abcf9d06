-- The lines of the canonical text, and their words.
use Rattle.px_num.proofs.Basics.{◌≡◌, ℕ, ◌+◌, ◌==◌, [], ◌∷◌, ◌++◌, length, filter, codes, flat_map, range_with_len}
use Rattle.px_scene.proofs.CanonicalWords.{canonical_text, colour_words, lines_of_number, SceneView, solid_lines}
use Rattle.px_scene.proofs.CanonicalWords.{SolidView}
use Rattle.px_scene.proofs.CanonicalWords.{version_for, words_of_plane}
use Rattle.px_scene.proofs.RoundLaws.{begin_are, face_words}
use Rattle.px_scene.proofs.FaceWalkLemmas.{words_at, words_of_number}
use Rattle.px_scene.proofs.SceneWalkLemmas.{end_words, first_words, head_words, numbers_words, scene_words}
use Rattle.px_scene.proofs.SceneWalkLemmas.{shown_text, show_words, sides_words, solid_words}
use Rattle.px_scene.proofs.WrittenLaws.{both_texts, lines_are, one_line, parts_are, text_of_lines}

number_lines_are : (s : SolidView) (m : ℕ) → lines_of_number s m ≡ text_of_lines (words_of_number s m)
number_lines_are s m =
    both_texts (words_at (codes "front") s.fronts m) (words_at (codes "back") s.backs m) _ _
    (lines_are (codes "front") face_words (filter (λ f. f.number == m) s.fronts))
    (lines_are (codes "back") face_words (filter (λ f. f.number == m) s.backs))

solid_lines_are : (s : SolidView) → solid_lines s ≡ text_of_lines (solid_words s)
solid_lines_are s =
    both_texts ((head_words s ∷ []) ++ numbers_words s) (sides_words s) _ _
    (both_texts (head_words s ∷ []) (numbers_words s) _ _ (one_line (codes "solid") (s.name ∷ colour_words s.colour))
    (parts_are (lines_of_number s) (words_of_number s) (number_lines_are s)
    (range_with_len (s.near_number + 1) (length s.fronts + length s.backs))))
    (lines_are (codes "side") words_of_plane s.sides)

pub text_is : (scene : SceneView) → canonical_text scene ≡ text_of_lines (scene_words scene)
text_is scene =
    let solids = flat_map solid_words scene.solids
    in both_texts ((first_words scene ++ solids) ++ show_words scene) end_words _ _
    (both_texts (first_words scene ++ solids) (show_words scene) _ _
    (both_texts (first_words scene) solids _ _
    (begin_are (version_for scene) scene.width scene.height scene.depth_bits scene.fraction_bits)
    (parts_are solid_lines solid_words solid_lines_are scene.solids))
    (one_line (codes "show") (shown_text scene ∷ [])))
    (one_line (codes "end") [])

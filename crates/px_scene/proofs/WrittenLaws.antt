-- Lines by their words: what is written of them, and what is read of that.
use Rattle.px_num.proofs.Basics.{nat_tests, common_steps, ◌≡◌, ℕ, List, [], ◌∷◌, ◌++◌, Bool, true, false, ◌&&◌, map}
use Rattle.px_num.proofs.Basics.{refl, ap, sym, ◌∙◌, arith, append_assoc, append-nil, flat_map, list_all}
use Rattle.px_num.proofs.Basics.{list_all-append}
use Rattle.px_scene.proofs.CanonicalWords.{are_plain, both, Colour, colour_words, decimal_plain, fed, is_no_feed}
use Rattle.px_scene.proofs.CanonicalWords.{is_plain}
use Rattle.px_scene.proofs.CanonicalWords.{IsColour, IsPlane, Linear, plain_fed, signed_plain, small_size, spaced}
use Rattle.px_scene.proofs.CanonicalWords.{spaced_fed, Words, words_of, words_of_plane}
use Rattle.px_scene.specs.Canonical.{written_line}

abbrev pub bare : Words → List ℕ
bare [] = []
bare (w ∷ ws) = w ++ spaced ws

abbrev pub is_written : Words → Bool
is_written [] = false
is_written (w ∷ ws) = is_plain w && are_plain ws

-- lines by their words
abbrev pub text_of_lines : List Words → List ℕ
text_of_lines ls = fed (map bare ls)

joined : (ls ms : List Words) → text_of_lines (ls ++ ms) ≡ text_of_lines ls ++ text_of_lines ms
joined [] ms = refl
joined (l ∷ ls) ms = grind (arith, append_assoc, joined ls ms)

pub one_line : (w : List ℕ) (ws : Words) → written_line w ws ≡ text_of_lines ((w ∷ ws) ∷ [])
unfolding written_line
one_line w ws = simp (append_assoc, append-nil)

-- two texts, one behind the other
pub both_texts : (ls ms : List Words) (u w : List ℕ) → u ≡ text_of_lines ls → w ≡ text_of_lines ms
    → u ++ w ≡ text_of_lines (ls ++ ms)
both_texts ls ms u w one two = ap (λ t. t ++ w) one ∙ ap (λ t. text_of_lines ls ++ t) two ∙ sym (joined ls ms)

-- a line for each of some
pub lines_are : {X : Type 0} (kind : List ℕ) (words : X → Words) (xs : List X)
    → flat_map (λ x. written_line kind (words x)) xs ≡ text_of_lines (map (λ x. kind ∷ words x) xs)
lines_are kind words [] = refl
lines_are kind words (x ∷ xs) = grind (arith, nat_tests, common_steps, both_texts, one_line, lines_are kind words xs)

-- lines for each of some
pub parts_are : {X : Type 0} (part : X → List ℕ) (words : X → List Words) → ((x : X) → part x ≡ text_of_lines (words x))
    → (xs : List X) → flat_map part xs ≡ text_of_lines (flat_map words xs)
parts_are part words are [] = refl
parts_are part words are (x ∷ xs) = both_texts (words x) (flat_map words xs) _ _ (are x) (parts_are part words are xs)

-- colours and planes are written in plain words
pub colour_plain : (c : Colour) → IsColour c → are_plain (colour_words c) ≡ true
colour_plain c is = grind (arith, decimal_plain)

pub plane_plain : (p : Linear) → IsPlane p → are_plain (words_of_plane p) ≡ true
plane_plain p is = grind (arith, nat_tests, common_steps, signed_plain, small_size)

-- a line of plain words is one line, and is read as those words
pub bare_fed : (l : Words) → is_written l ≡ true → list_all is_no_feed (bare l) ≡ true
bare_fed [] e = cc
bare_fed (w ∷ ws) e = grind (arith, both, list_all-append, plain_fed, spaced_fed)

abbrev pub has_no_feed : List ℕ → Bool
has_no_feed l = list_all is_no_feed l

-- the words that are read of a line
abbrev pub words_behind : Words → Words
words_behind l = words_of (bare l)

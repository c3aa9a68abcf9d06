-- The lines of the sample, its length, and so that it is accepted.
use Rattle.px_num.proofs.Basics.{nat_tests, common_steps, ◌≡◌, ℕ, ◌+◌, ◌*◌, ◌<◌, ◌≤◌, ◌^◌, List, [], ◌∷◌, ◌++◌, length}
use Rattle.px_num.proofs.Basics.{true, codes, refl, ap, sym, subst, ◌∙◌, arith, length-append, zero, suc, flat_map}
use Rattle.px_num.proofs.Basics.{range_with_len}
use Rattle.px_num.specs.declared.linear.Linear.{Linear}
use Rattle.px_expr.specs.Tree.{HasLeavesBelow}
use Rattle.px_text.specs.Text.{Words, is_name}
use Rattle.px_model.specs.declared.solid.Colour.{Colour}
use Rattle.px_model.specs.Scenes.{IsColour, IsPlane, names_of}
use Rattle.px_scene.specs.Canonical.{colour_words, words_of_plane, side_line, written_line}
use Rattle.px_sample.specs.Sample.{block_faces, block_line, block_lines, block_name, block_rows, block_sides, cut_lines}
use Rattle.px_sample.specs.Sample.{form_line, left_and_right, sample_start, sample_text, top_and_bottom, union_of}
use Rattle.px_sample.specs.SampleLaw.{SamplesAreAccepted}
use Rattle.px_scene.proofs.WrittenLaws.{both_texts, one_line, parts_are, text_of_lines}
use Rattle.px_scene.proofs.LengthLaws.{colour_short, line_short, name_short, plane_short, tree_short}
use Rattle.px_scene.proofs.LengthLemmas.{begin_short}
use Rattle.px_scene.proofs.RoundLaws.{begin_are}
use Rattle.px_sample.proofs.SampleSolidLemmas.{back_of, back_plane, block_named, block_planes, block_words, blue}
use Rattle.px_sample.proofs.SampleSolidLemmas.{blue_is, bottom_side, cut_back, cut_back_plane, cut_planes, cut_side}
use Rattle.px_sample.proofs.SampleSolidLemmas.{cut_words, front_of, front_plane, left_side, right_side, sample_names}
use Rattle.px_sample.proofs.SampleSolidLemmas.{sample_solids, top_side, yellow, yellow_is}
use Rattle.px_sample.proofs.SampleTreeLemmas.{sample_tree}
use Rattle.px_sample.proofs.SampleWalkLemmas.{sample_draft, sample_first, sample_is, sample_middle, sample_show}
use Rattle.px_sample.proofs.SampleWalkLemmas.{sample_shown, sample_walk, sample_words}
use Rattle.px_scene.proofs.WalkLaws.{read_by_walk}
use Rattle.px_scene.proofs.LengthLaws as short
use Rattle.px_show.specs.declared.scene_version.Version.TheVariants as v

abbrev head_line : List ℕ → Colour → Words
head_line name c = codes "solid" ∷ name ∷ colour_words c

abbrev side_line_words : Linear → Words
side_line_words p = codes "side" ∷ words_of_plane p

abbrev face_line_words : List ℕ → Linear → Words
face_line_words kind p = kind ∷ words_of_plane p

two_sides : (p q : Linear) → side_line p ++ side_line q ≡ text_of_lines (side_line_words p ∷ side_line_words q ∷ [])
two_sides p q = grind (arith, nat_tests, common_steps, both_texts, one_line, codes)

block_is : (i : ℕ) → block_lines i ≡ text_of_lines (block_words i)
block_is i =
    let two = side_line_words (left_side i) ∷ side_line_words (right_side i) ∷ [] in
    let more = side_line_words (top_side i) ∷ side_line_words (bottom_side i) ∷ [] in
    let front = face_line_words (codes "front") (front_of i) in
    let back = face_line_words (codes "back") back_of in
    both_texts (head_line (block_name i) (blue i) ∷ (two ++ more)) (front ∷ back ∷ []) _ _
    (both_texts (head_line (block_name i) (blue i) ∷ []) (two ++ more) _ _
    (one_line (codes "solid") (block_name i ∷ colour_words (blue i)))
    (both_texts two more _ _ (two_sides (left_side i) (right_side i)) (two_sides (top_side i) (bottom_side i))))
    (both_texts (front ∷ []) (back ∷ []) _ _ (one_line (codes "front") (words_of_plane (front_of i)))
    (one_line (codes "back") (words_of_plane back_of)))

cut_is : cut_lines ≡ text_of_lines cut_words
cut_is = grind (arith, nat_tests, common_steps, codes, yellow, cut_side, cut_back, both_texts, one_line)

text_is : (n : ℕ) → 1 ≤ n → n ≤ 200 → sample_text n ≡ text_of_lines (sample_words n)
text_is n some le =
    let blocks = flat_map block_words (range_with_len 0 n) in
    let show = λ (t : List ℕ). written_line (codes "show") (t ∷ []) in
    both_texts (sample_middle n ++ sample_show n) ((codes "end" ∷ []) ∷ []) _ _
    (both_texts (sample_middle n) (sample_show n) _ _
    (both_texts (sample_first n ++ blocks) cut_words _ _
    (both_texts (sample_first n) blocks _ _ (begin_are v.One 64 (4 * block_rows n) 16 0)
    (parts_are block_lines block_words block_is (range_with_len 0 n)))
    cut_is)
    (ap show (sym (sample_is n some le).text) ∙ one_line (codes "show") (sample_shown n ∷ [])))
    (one_line (codes "end") [])

-- the sample is within the limit of texts
side_short : (p : Linear) → IsPlane p → length (side_line p) ≤ 41
side_short p is = line_short (codes "side") (words_of_plane p) 4 36 (omega arith) (plane_short p is)

form_short : (kind : List ℕ) (p : Linear) → length kind ≤ 5 → IsPlane p → length (form_line kind p) ≤ 42
form_short kind p few is = line_short kind (words_of_plane p) 5 36 few (plane_short p is)

head_short : (name : List ℕ) (c : Colour) → is_name name ≡ true → IsColour c
    → length (written_line (codes "solid") (name ∷ colour_words c)) ≤ 51
head_short name c named is = grind (arith, nat_tests, common_steps, line_short, codes, name_short, colour_short)

block_short : (i : ℕ) → i < 200 → length (block_lines i) ≤ 299
block_short i low =
    let planes = block_planes i low in
    short.joined (block_line i ++ block_sides i) (block_faces i) 215 84
    (short.joined (block_line i) (block_sides i) 51 164
    (head_short (block_name i) (blue i) (block_named i (omega arith)) (blue_is i low))
    (short.joined (left_and_right i) (top_and_bottom i) 82 82
    (short.joined (side_line (left_side i)) (side_line (right_side i)) 41 41
    (side_short (left_side i) (planes 0 (left_side i) (omega arith)))
    (side_short (right_side i) (planes 1 (left_side i) (omega arith))))
    (short.joined (side_line (top_side i)) (side_line (bottom_side i)) 41 41
    (side_short (top_side i) (planes 2 (left_side i) (omega arith)))
    (side_short (bottom_side i) (planes 3 (left_side i) (omega arith))))))
    (short.joined (form_line (codes "front") (front_of i)) (form_line (codes "back") back_of) 42 42
    (form_short (codes "front") (front_of i) (omega arith) (front_plane i low))
    (form_short (codes "back") back_of (omega arith) back_plane))

blocks_short : (count first : ℕ) → first + count ≤ 200
    → length (flat_map block_lines (range_with_len first count)) ≤ 299 * count
blocks_short zero first few = omega arith
blocks_short (suc count) first few =
    grind (arith, block_short, length-append, blocks_short count (first + 1) (omega arith))

cut_short : length cut_lines ≤ 134
cut_short =
    short.joined (written_line (codes "solid") (codes "cut" ∷ colour_words yellow) ++ side_line cut_side)
    (form_line (codes "back") cut_back) 92 42
    (short.joined (written_line (codes "solid") (codes "cut" ∷ colour_words yellow)) (side_line cut_side) 51 41
    (head_short (codes "cut") yellow refl yellow_is) (side_short cut_side (cut_planes 0 cut_side (omega arith))))
    (form_short (codes "back") cut_back (omega arith) cut_back_plane)

sample_short : (n : ℕ) → 1 ≤ n → n ≤ 200 → length (sample_text n) ≤ 2 ^ 20
sample_short n some le =
    let are = sample_names n le in
    let is = sample_is n some le in
    let union = codes "(" ++ union_of 0 n ++ codes " - cut)" in
    let tree = tree_short (names_of (sample_solids n)) (sample_tree n) are.distinct.lawful
    (subst (λ k. HasLeavesBelow k (sample_tree n)) (sym are.count) is.below) in
    let leaves = is.lawful.leaves in
    let long : length union ≤ 20000 = omega (arith, tree, leaves, ap length is.text) in
    let show = line_short (codes "show") (union ∷ []) 4 20001 (omega arith)
    (short.joined (32 ∷ union) [] 20001 0 (omega arith) (omega arith)) in
    let end = line_short (codes "end") [] 3 0 (omega arith) (omega arith) in
    let first = begin_short v.One 64 (4 * block_rows n) 16 0 (omega arith) (omega arith) (omega arith) (omega arith) in
    let middle = blocks_short n 0 (omega arith) in
    let cut = cut_short in
    let one = sample_start n ++ flat_map block_lines (range_with_len 0 n) in
    let two = one ++ cut_lines in
    let three = two ++ written_line (codes "show") (union ∷ []) in
    grind (arith, length-append, codes)

pub samples_accepted : SamplesAreAccepted
samples_accepted n some le =
    (read_by_walk (sample_text n) (sample_words n) (sample_draft n) (text_is n some le) (sample_short n some le)
    (sample_walk n some le) refl).good

-- The lines of the sample, one after another, are good.
use Rattle.px_num.proofs.Basics.{◌≡◌, ℕ, ◌+◌, ◌*◌, ◌<◌, ◌≤◌, List, [], ◌∷◌, ◌++◌, length, codes, Some, refl, ap, sym}
use Rattle.px_num.proofs.Basics.{subst, ◌∙◌, arith, zero, suc, flat_map, range_with_len, length-map-range_with_len}
use Rattle.px_expr.specs.Tree.{HasLeavesBelow}
use Rattle.px_text.specs.Text.{Words}
use Rattle.px_show.specs.Printed.{named_by, printed}
use Rattle.px_model.specs.Scenes.{SolidView, names_of}
use Rattle.px_scene.specs.Canonical.{colour_words, words_of_plane}
use Rattle.px_scene.specs.Drafts.{DraftView, blank, fresh_solid, with_front}
use Rattle.px_scene.specs.Lines.{uncoloured}
use Rattle.px_sample.specs.Sample.{block_name, block_rows}
use Rattle.px_scene.proofs.RoundLaws.{back_walk, begin_walk, begin_words, end_walk, front_walk, open_solid, opened}
use Rattle.px_scene.proofs.RoundLaws.{plane_written, show_walk, shown_draft, sides_walk, solid_walk, standing}
use Rattle.px_scene.proofs.RoundLaws.{stands}
use Rattle.px_sample.proofs.SampleSolidLemmas.{back_of, back_plane, block, block_named, block_planes, block_sides_of}
use Rattle.px_sample.proofs.SampleSolidLemmas.{block_words, blocks, blocks_more, blue, blue_is, cut_back}
use Rattle.px_sample.proofs.SampleSolidLemmas.{cut_back_plane, cut_planes, cut_side, cut_solid, cut_words, fresh_block}
use Rattle.px_sample.proofs.SampleSolidLemmas.{fresh_cut, front_of, front_plane, sample_names, sample_solids}
use Rattle.px_sample.proofs.SampleSolidLemmas.{side_words, yellow, yellow_is}
use Rattle.px_sample.proofs.SampleTreeLemmas.{IsSampleTree, sample_tree, sample_tree_is}
use Rattle.px_scene.proofs.WalkLaws.{Walk, walk_both}
use Rattle.px_show.specs.declared.scene_version.Version.TheVariants as v
use Rattle.px_scene.specs.declared.line.Due.TheVariants as d

-- the solids, one after another
block_walk : (start : DraftView) (i : ℕ) → i < 200
    → Walk (standing start (blocks i) (3 * i)) (block_words i) (standing start (blocks (i + 1)) (3 * (i + 1)))
block_walk start i low =
    let done = blocks i in
    let n = 3 * i in
    let few : length done ≡ i = length-map-range_with_len block 0 i in
    let fresh = fresh_solid (block_name i) (n + 1) (blue i) in
    let sided : SolidView = record fresh { sides = block_sides_of i } in
    let fronted = with_front (n + 1 + 1) (uncoloured (front_of i)) sided in
    let open_at = λ (s : SolidView) (m : ℕ). open_solid start done s m in
    let head = solid_walk start done n (block_name i) (blue i) (blue_is i low) (block_named i (omega arith))
    (fresh_block i i (omega arith) (omega arith)) (omega arith) (omega arith) in
    let sides = sides_walk start done fresh (n + 1) (block_sides_of i) [] (block_planes i low) (omega arith) in
    let front = front_walk start done sided (n + 1) _ _ (plane_written (front_of i) (front_plane i low)) (omega arith)
    (omega arith) in
    let back = back_walk start done fronted (n + 1 + 1) _ _ (plane_written back_of back_plane) (omega arith)
    (omega arith) in
    let last : n + 1 + 1 + 1 ≡ 3 * (i + 1) = omega arith in
    let end : open_at (block i) (n + 1 + 1 + 1) ≡ standing start (blocks (i + 1)) (3 * (i + 1)) =
    stands start done (block i) (n + 1 + 1 + 1) ∙ ap (standing start (done ++ block i ∷ [])) last
    ∙ ap (λ ss. standing start ss (3 * (i + 1))) (sym (blocks_more i)) in
    let faces : List Words = (codes "front" ∷ words_of_plane (front_of i)) ∷ (codes "back" ∷ words_of_plane back_of)
    ∷ [] in
    subst (λ (after : DraftView). Walk (standing start done n) (block_words i) after) end
    (walk_both (standing start done n) (open_at fresh (n + 1)) (open_at (block i) (n + 1 + 1 + 1))
    ((codes "solid" ∷ block_name i ∷ colour_words (blue i)) ∷ []) (side_words (block_sides_of i) ++ faces) head
    (walk_both (open_at fresh (n + 1)) (open_at sided (n + 1)) (open_at (block i) (n + 1 + 1 + 1))
    (side_words (block_sides_of i)) faces sides
    (walk_both (open_at sided (n + 1)) (open_at fronted (n + 1 + 1)) (open_at (block i) (n + 1 + 1 + 1))
    ((codes "front" ∷ words_of_plane (front_of i)) ∷ []) ((codes "back" ∷ words_of_plane back_of) ∷ []) front back)))

blocks_walk : (start : DraftView) (count first : ℕ) → first + count ≤ 200
    → Walk (standing start (blocks first) (3 * first)) (flat_map block_words (range_with_len first count))
    (standing start (blocks (first + count)) (3 * (first + count)))
blocks_walk start zero first few =
    let same : first ≡ first + 0 = omega arith in ap (λ m. standing start (blocks m) (3 * m)) same
blocks_walk start (suc count) first few =
    let same : first + 1 + count ≡ first + suc count = omega arith in
    subst (λ (m : ℕ). Walk (standing start (blocks first) (3 * first))
    (flat_map block_words (range_with_len first (suc count)))
    (standing start (blocks m) (3 * m))) same
    (walk_both (standing start (blocks first) (3 * first)) (standing start (blocks (first + 1)) (3 * (first + 1)))
    (standing start (blocks (first + 1 + count)) (3 * (first + 1 + count))) (block_words first)
    (flat_map block_words (range_with_len (first + 1) count)) (block_walk start first (omega arith))
    (blocks_walk start count (first + 1) (omega arith)))

cut_walk : (start : DraftView) (n : ℕ) → n ≤ 200
    → Walk (standing start (blocks n) (3 * n)) cut_words (standing start (sample_solids n) (3 * n + 1 + 1))
cut_walk start n le =
    let done = blocks n in
    let m = 3 * n in
    let few : length done ≡ n = length-map-range_with_len block 0 n in
    let fresh = fresh_solid (codes "cut") (m + 1) yellow in
    let sided : SolidView = record fresh { sides = cut_side ∷ [] } in
    let head = solid_walk start done m (codes "cut") yellow yellow_is refl (fresh_cut n) (omega arith) (omega arith) in
    let sides = sides_walk start done fresh (m + 1) (cut_side ∷ []) [] cut_planes (omega arith) in
    let back = back_walk start done sided (m + 1) _ _ (plane_written cut_back cut_back_plane) (omega arith)
    (omega arith) in
    let back_words : List Words = (codes "back" ∷ words_of_plane cut_back) ∷ [] in
    grind (arith, standing, cut_words, stands, cut_solid, walk_both, open_solid, codes, yellow, side_words, cut_side)

abbrev pub sample_first : ℕ → List Words
sample_first n = begin_words v.One 64 (4 * block_rows n) 16 0

abbrev pub sample_shown : ℕ → List ℕ
sample_shown n = printed (named_by (names_of (sample_solids n)) (sample_tree n))

-- the lines of the sample up to its expression, and all of them, by what stands between their spaces
abbrev pub sample_middle : ℕ → List Words
sample_middle n = (sample_first n ++ flat_map block_words (range_with_len 0 n)) ++ cut_words

abbrev pub sample_show : ℕ → List Words
sample_show n = (codes "show" ∷ sample_shown n ∷ []) ∷ []

abbrev pub sample_words : ℕ → List Words
sample_words n = (sample_middle n ++ sample_show n) ++ (codes "end" ∷ []) ∷ []

abbrev start_of : ℕ → DraftView
start_of n = opened v.One 64 (4 * block_rows n) 16 0

abbrev pub sample_draft : ℕ → DraftView
sample_draft n = shown_draft (start_of n) (sample_solids n) (3 * n + 1 + 1) d.Nothing (Some (sample_tree n))

pub sample_is : (n : ℕ) → 1 ≤ n → n ≤ 200 → IsSampleTree n (names_of (sample_solids n))
sample_is n some le =
    let are = sample_names n le in
    sample_tree_is n (names_of (sample_solids n)) some le are.blocks_first are.cut_last

pub sample_walk : (n : ℕ) → 1 ≤ n → n ≤ 200 → Walk blank (sample_words n) (sample_draft n)
sample_walk n some le =
    let start = start_of n in
    let are = sample_names n le in
    let tree = sample_is n some le in
    let below = subst (λ k. HasLeavesBelow k (sample_tree n)) (sym are.count) tree.below in
    let first = begin_walk v.One 64 (4 * block_rows n) 16 0 refl (omega arith) (omega arith) (omega arith) (omega arith)
    (omega arith) (omega arith) (omega arith) in
    let same : 0 + n ≡ n = omega arith in
    let solids = subst (λ m. Walk (standing start (blocks 0) (3 * 0)) (flat_map block_words (range_with_len 0 n))
    (standing start (blocks m) (3 * m))) same (blocks_walk start n 0 (omega arith)) in
    let numbered = 3 * n + 1 + 1 in
    let all = sample_solids n in
    let show = show_walk start all numbered (sample_tree n) are.distinct below tree.signs tree.lawful in
    let shown = shown_draft start all numbered d.End (Some (sample_tree n)) in
    walk_both blank shown (sample_draft n) (sample_middle n ++ sample_show n) ((codes "end" ∷ []) ∷ [])
    (walk_both blank (standing start all numbered) shown (sample_middle n) (sample_show n)
    (walk_both blank (standing start (blocks n) (3 * n)) (standing start all numbered)
    (sample_first n ++ flat_map block_words (range_with_len 0 n)) cut_words
    (walk_both blank start (standing start (blocks n) (3 * n)) (sample_first n)
    (flat_map block_words (range_with_len 0 n)) first solids)
    (cut_walk start n le)) show)
    (end_walk start all numbered (Some (sample_tree n)))

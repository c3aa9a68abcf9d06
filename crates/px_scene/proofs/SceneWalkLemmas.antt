-- The lines of all solids, and of a whole scene.
use Rattle.px_num.proofs.Basics.{◌≡◌, ◌≢◌, ℕ, ◌+◌, ◌<◌, ◌≤◌, ◌==◌, if◌then◌else◌, not, List, [], ◌∷◌, ◌++◌, length}
use Rattle.px_num.proofs.Basics.{Bool, true, false, ◌||◌, codes, map, Some, refl, ap, sym, subst, ◌∙◌, arith}
use Rattle.px_num.proofs.Basics.{append_assoc, append-nil, length-append, suc, All, AllPass, AllPairs, flat_map}
use Rattle.px_num.proofs.Basics.{range_with_len, bytes_eq, get_or-append_seam, length-map, bytes_eq-Decides}
use Rattle.px_scene.proofs.CanonicalWords.{AreNumberedFrom, blank, colour_words, DraftView, faces_in, faces_of}
use Rattle.px_scene.proofs.CanonicalWords.{faces_of-cons, fresh_solid, has_differ, has_difference, HasLeavesBelow}
use Rattle.px_scene.proofs.CanonicalWords.{is_among}
use Rattle.px_scene.proofs.CanonicalWords.{is_name, IsLawfulSolid, IsNumberedFrom, IsWritable, named_by, names_of}
use Rattle.px_scene.proofs.CanonicalWords.{printed}
use Rattle.px_scene.proofs.CanonicalWords.{SceneView, signs_of, SolidView, version_for, Words, words_of_plane}
use Rattle.std.proofs.Common.{zero-add}
use Rattle.px_scene.proofs.CutLemmas.{none_below, all_below}
use Rattle.px_scene.proofs.WalkLaws.{Walk, walk_both}
use Rattle.px_scene.proofs.RoundLaws.{CanWrite, begin_walk, begin_words, end_walk, open_solid, opened, show_walk}
use Rattle.px_scene.proofs.RoundLaws.{shown_draft, sides_walk, solid_walk, standing, stands}
use Rattle.px_scene.proofs.FaceWalkLemmas.{part, words_of_number, faces_walk}
use Rattle.px_scene.specs.declared.line.Due.TheVariants as d
use Rattle.px_show.specs.declared.scene_version.Version.TheVariants as v

abbrev pub head_words : SolidView → Words
head_words s = codes "solid" ∷ s.name ∷ colour_words s.colour

abbrev pub numbers_words : SolidView → List Words
numbers_words s = flat_map (words_of_number s) (range_with_len (s.near_number + 1) (length s.fronts + length s.backs))

abbrev pub sides_words : SolidView → List Words
sides_words s = map (λ p. codes "side" ∷ words_of_plane p) s.sides

abbrev pub solid_words : SolidView → List Words
solid_words s = ((head_words s ∷ []) ++ numbers_words s) ++ sides_words s

begun : (s : SolidView) (n : ℕ) → IsLawfulSolid s → s.near_number ≡ n + 1
    → fresh_solid s.name (n + 1) s.colour ≡ part s (s.near_number + 1)
begun s n ok near = grind (arith, none_below)

ended : (s : SolidView) (m : ℕ) → All (λ f. f.number < m) s.fronts → All (λ f. f.number < m) s.backs
    → part s m ≡ record s { sides = [] }
ended s m fronts backs = rw (all_below m s.fronts fronts, all_below m s.backs backs) refl

whole_solid : (start : DraftView) (done : List SolidView) (s : SolidView) (n : ℕ) → IsLawfulSolid s
    → IsNumberedFrom (n + 1) s → n + faces_in s ≤ 4095 → is_name s.name ≡ true → is_among (names_of done) s.name ≡ false
    → length done < 255
    → Walk (standing start done n) (solid_words s) (standing start (done ++ s ∷ []) (n + faces_in s))
whole_solid start done s n ok is most lawful fresh few =
    let near = is.near
    in let count = length s.fronts + length s.backs
    in let draft = λ (q : SolidView) (m : ℕ). open_solid start done q m
    in let head = solid_walk start done n s.name s.colour ok.colour lawful fresh few (omega arith)
    in let from : draft (fresh_solid s.name (n + 1) s.colour) (n + 1)
    ≡ draft (part s (s.near_number + 1)) s.near_number = ap (λ q. draft q (n + 1)) (begun s n ok near)
    ∙ ap (draft (part s (s.near_number + 1))) (sym near)
    in let faces = faces_walk start done s count s.near_number ok (omega arith)
    (λ m over under. is.once m (omega arith) (omega arith))
    in let last : n + 1 + faces_in s ≡ s.near_number + count + 1 = omega arith
    in let whole = ended s (s.near_number + count + 1) (subst
    (λ (m : ℕ). All (λ f. f.number < m) s.fronts) last is.fronts)
    (subst (λ (m : ℕ). All (λ f. f.number < m) s.backs) last is.backs)
    in let sides = sides_walk start done s (s.near_number + count) s.sides [] ok.sides
    (let few_sides = ok.few_sides in omega arith)
    in let sum : s.near_number + count ≡ n + faces_in s = omega arith
    in subst (λ (after : DraftView). Walk (standing start done n) (solid_words s) after)
    (ap (draft s) sum ∙ stands start done s (n + faces_in s))
    (walk_both (standing start done n) (draft (record s { sides = [] }) (s.near_number + count))
    (draft s (s.near_number + count)) ((head_words s ∷ []) ++ numbers_words s) (sides_words s)
    (walk_both (standing start done n) (draft (part s (s.near_number + 1)) s.near_number)
    (draft (record s { sides = [] }) (s.near_number + count)) (head_words s ∷ []) (numbers_words s)
    (subst (λ (after : DraftView). Walk (standing start done n) (head_words s ∷ []) after) from head)
    (subst (λ (q : SolidView). Walk (draft (part s (s.near_number + 1)) s.near_number) (numbers_words s)
    (draft q (s.near_number + count))) whole faces))
    sides)

fresh_name : (names : Words) (name : List ℕ) (others : Words) → AllPairs (λ m n. m ≢ n) (names ++ name ∷ others)
    → is_among names name ≡ false
fresh_name [] name others different = refl
fresh_name (n ∷ ns) name others different =
    by_test (bytes_eq n name) refl
    (fresh_name ns name others (λ i j e lt le. different (suc i) (suc j) e (omega arith) (omega arith)))
  where
    by_test : (same : Bool) → bytes_eq n name ≡ same → is_among ns name ≡ false
        → (bytes_eq n name || is_among ns name) ≡ false
    by_test true e later =
        let apart = different 0 (suc (length ns)) [] (omega arith) (omega (arith, length-append ns (name ∷ others)))
        in absurd (apart ((bytes_eq-Decides n name).0 e ∙ sym (get_or-append_seam ns name others [])))
    by_test false e later = rw e later

names_end : (done : List SolidView) (s : SolidView) → names_of (done ++ s ∷ []) ≡ names_of done ++ s.name ∷ []
names_end [] s = refl
names_end (q ∷ done) s = ap (λ ns. q.name ∷ ns) (names_end done s)

pub solids_walk : (start : DraftView) (ss done : List SolidView) (n : ℕ) → All IsLawfulSolid ss
    → AreNumberedFrom (n + 1) ss → n + faces_of ss ≤ 4095 → AllPass is_name (names_of ss)
    → AllPairs (λ m n. m ≢ n) (names_of done ++ names_of ss) → length done + length ss ≤ 255
    → Walk (standing start done n) (flat_map solid_words ss) (standing start (done ++ ss) (n + faces_of ss))
solids_walk start [] done n ok are most lawful different few = grind (arith, standing, append-nil)
solids_walk start (s ∷ ss) done n ok are most lawful different few =
    let counted = faces_of-cons s ss
    in let first = whole_solid start done s n (ok 0 s (omega arith)) are.0 (omega arith)
    (lawful 0 [] (omega arith)) (fresh_name (names_of done) s.name (names_of ss) different) (omega arith)
    in let next : n + 1 + faces_in s ≡ n + faces_in s + 1 = omega arith
    in let later = solids_walk start ss (done ++ s ∷ []) (n + faces_in s)
    (λ k e lt. ok (suc k) e (omega arith)) (subst (λ (m : ℕ). AreNumberedFrom m ss) next are.1) (omega arith)
    (λ k e lt. lawful (suc k) e (omega arith))
    (subst (λ (ns : Words). AllPairs (λ m n. m ≢ n) ns)
    (sym (append_assoc (names_of done) (s.name ∷ []) (names_of ss))
    ∙ ap (λ ns. ns ++ names_of ss) (sym (names_end done s))) different)
    (omega (arith, length-append done (s ∷ [])))
    in let end : standing start ((done ++ s ∷ []) ++ ss) (n + faces_in s + faces_of ss)
    ≡ standing start (done ++ s ∷ ss) (n + faces_of (s ∷ ss)) =
    grind (arith, standing, append_assoc)
    in grind (arith, standing, walk_both)

abbrev pub first_words : SceneView → List Words
first_words scene = begin_words (version_for scene) scene.width scene.height scene.depth_bits scene.fraction_bits

-- the draft of the first lines
abbrev start_of : SceneView → DraftView
start_of scene = opened (version_for scene) scene.width scene.height scene.depth_bits scene.fraction_bits

abbrev pub shown_text : SceneView → List ℕ
shown_text scene = printed (named_by (names_of scene.solids) scene.show)

abbrev pub show_words : SceneView → List Words
show_words scene = (codes "show" ∷ shown_text scene ∷ []) ∷ []

abbrev pub end_words : List Words
end_words = (codes "end" ∷ []) ∷ []

-- the lines of a scene's text, by what stands between their spaces
abbrev pub scene_words : SceneView → List Words
scene_words scene = ((first_words scene ++ flat_map solid_words scene.solids) ++ show_words scene) ++ end_words

abbrev pub final_draft : SceneView → DraftView
final_draft scene = shown_draft (start_of scene) scene.solids (faces_of scene.solids) d.Nothing (Some scene.show)

-- the version of a scene writes its fraction bits and its signs
can_write : (fraction : ℕ) (differs : Bool)
    → CanWrite (if fraction == 0 then (if differs then v.Two else v.One) else v.Three) fraction
can_write fraction differs = grind arith

has_signs_for : (whole differs : Bool)
    → has_differ (if whole then (if differs then v.Two else v.One) else v.Three) || not differs ≡ true
has_signs_for whole differs = grind arith

pub scene_walk : (scene : SceneView) → IsWritable scene → Walk blank (scene_words scene) (final_draft scene)
scene_walk scene is =
    let law = is.lawful
    in let names : length (names_of scene.solids) ≡ length scene.solids =
    length-map scene.solids (λ (s : SolidView). s.name)
    in let below = subst (λ (n : ℕ). HasLeavesBelow n scene.show) (sym names) law.shown
    in let stand = standing (start_of scene)
    in let first = begin_walk (version_for scene) scene.width scene.height scene.depth_bits scene.fraction_bits
    (can_write scene.fraction_bits (has_difference scene.show)) law.sizes.some_width law.sizes.width_limit
    law.sizes.some_height law.sizes.height_limit
    law.sizes.some_depth law.sizes.depth_limit
    law.sizes.fraction_limit
    in let solids = solids_walk (start_of scene) scene.solids [] 0 is.solids law.numbers
    (let faces = law.faces in omega arith) law.names law.different (let few = law.solids in omega arith)
    in let signs = signs_of (version_for scene) (names_of scene.solids) scene.show
    (has_signs_for (scene.fraction_bits == 0) (has_difference scene.show))
    in let show = show_walk (start_of scene) scene.solids (faces_of scene.solids) scene.show
    (record { lawful = law.names; different = law.different }) below signs is.show
    in let end = end_walk (start_of scene) scene.solids (faces_of scene.solids) (Some scene.show)
    in let shown = shown_draft (start_of scene) scene.solids (faces_of scene.solids) d.End (Some scene.show)
    in let all = flat_map solid_words scene.solids
    in walk_both blank shown (final_draft scene) ((first_words scene ++ all) ++ show_words scene) end_words
    (walk_both blank (stand scene.solids (faces_of scene.solids)) shown (first_words scene ++ all) (show_words scene)
    (walk_both blank (stand [] 0) (stand scene.solids (faces_of scene.solids)) (first_words scene) all first
    (subst (λ (n : ℕ). Walk (stand [] 0) all (stand scene.solids n)) (zero-add (faces_of scene.solids)) solids))
    show) end

-- The grid and the passes of a scene, as a listing.
use Rattle.std.proofs.Common.{rules}
use Rattle.px_num.proofs.Basics.{nat_tests, common_steps, ◌≡◌, ℕ, ◌+◌, ◌^◌, ◌<◌, ◌≤◌, All, List, [], ◌++◌, false, Some}
use Rattle.px_num.proofs.Basics.{length, take, drop, slice_get, ap, sym, ◌∙◌, arith, subst, append_assoc, Result, OnOk}
use Rattle.px_num.proofs.Basics.{OnErr, replicate, length-append, length-replicate, get_or_from_slice_get}
use Rattle.px_num.proofs.Basics.{slice_get_within, flat_map}
use Rattle.px_listing.proofs.Words.{after_macros, append-nil, exponent_of, HasSight, IsLawful}
use Rattle.px_listing.proofs.PieceLaws.{err_cut, ok_all, puts_both, puts_cut, puts_none}
use Rattle.px_listing.proofs.RowLaws.{listed_cut, listed_more}
use Rattle.px_listing.proofs.Words.{layout_of, Macro, macro_line, need_of, passes}
use Rattle.px_listing.proofs.Words.{passes_lawful, passes_leave_the_picture, picture, PixelBits, played, Puts}
use Rattle.px_listing.proofs.Words.{zero_bits}
use Rattle.px_io.specs.Reports.{SinkState, TakesAll, TakesFront}
use Rattle.px_macro.proofs.MacroLemmas.{is_lawful_in_more, memory_stays_long}
use Rattle.px_model.proofs.GridLaws.{exponent_between, exponent_is}
use Rattle.px_model.specs.Scenes.{IsLawfulScene, SceneView, IsLawfulSolid}
use Rattle.px_sched.proofs.LayoutLaws.{scene_layout}
use Rattle.px_sched.proofs.PassesLaws.{passes_are_lawful}
use Rattle.px_listing.proofs.PaddingLemmas.{all_padded, padded, sight_same}
use Rattle.px_listing.specs.PassesText.{PassesAreReadBack, PassesHaveTheScenesGrid, PlayedPassesShowThePicture}
use Rattle.px_listing.specs.PassesText.{passes_listing}
use Rattle.px_listing.proofs.TextLemmas.{read_back}

-- no line was put
pub puts_start : (a : SinkState) (u : List ℕ) (ops : List Macro) (n : ℕ) → n ≡ 0
    → Puts a a u (flat_map macro_line (take n ops)) u
puts_start a u ops n none = rw none (puts_none a u)

-- the line of the next operation is put
pub puts_next : (a b c : SinkState) (u v w line : List ℕ) (ops : List Macro) (i next : ℕ) (op : Macro)
    → slice_get ops i ≡ Some op → next ≡ i + 1 → line ≡ macro_line op → Puts a b u (flat_map macro_line (take i ops)) v
    → Puts b c v line w → Puts a c u (flat_map macro_line (take next ops)) w
puts_next a b c u v w line ops i next op is e written first second =
    let one = get_or_from_slice_get ops i op op is in
    let more : flat_map macro_line (take i ops) ++ macro_line op ≡ flat_map macro_line (take next ops) =
    ap (λ o. flat_map macro_line (take i ops) ++ macro_line o) (sym one)
    ∙ (listed_more macro_line ops i op (slice_get_within ops i op is)
    ∙ ap (λ n. flat_map macro_line (take n ops)) (sym e)) in
    grind (arith, puts_both)

-- a front of it is put
pub puts_next_front : (a b c : SinkState) (u v line : List ℕ) (ops : List Macro) (i : ℕ) (op : Macro)
    → slice_get ops i ≡ Some op → line ≡ macro_line op → Puts a b u (flat_map macro_line (take i ops)) v
    → TakesFront b c (v ++ line) → TakesFront a c (u ++ flat_map macro_line ops)
puts_next_front a b c u v line ops i op is written first second =
    let one = get_or_from_slice_get ops i op op is in
    let cut : flat_map macro_line (take i ops) ++ (macro_line op ++ flat_map macro_line (drop (i + 1) ops))
    ≡ flat_map macro_line ops =
    ap (λ o. flat_map macro_line (take i ops) ++ (macro_line o ++ flat_map macro_line (drop (i + 1) ops))) (sym one)
    ∙ listed_cut macro_line ops i op (slice_get_within ops i op is) in
    puts_cut a b c u v (flat_map macro_line (take i ops)) (macro_line op)
    (flat_map macro_line (drop (i + 1) ops)) (flat_map macro_line ops)
    cut first (rw written at second)

-- the first lines, and a front of those in the middle
pub front_of_middle : (a b c : SinkState) (piece v first middle last : List ℕ) → piece ≡ []
    → Puts a b piece first v → TakesFront b c (v ++ middle) → TakesFront a c (first ++ middle ++ last)
front_of_middle a b c piece v first middle last empty put front =
    puts_cut a b c [] v first middle last (first ++ middle ++ last) (sym (append_assoc first middle last))
    (rw empty at put) front

pub ok_to_last : {T E : Type 0} (r : Result T E) (a b c d : SinkState) (piece v w first middle last : List ℕ)
    → piece ≡ [] → Puts a b piece first v → Puts b c v middle w → OnOk r (TakesAll c d (w ++ last))
    → OnOk r (TakesAll a d (first ++ middle ++ last))
ok_to_last r a b c d piece v w first middle last empty one two all =
    grind (arith, nat_tests, common_steps, ok_all, puts_both)

pub err_to_last : {T E : Type 0} (r : Result T E) (a b c d : SinkState) (piece v w first middle last : List ℕ)
    → piece ≡ [] → Puts a b piece first v → Puts b c v middle w → OnErr r (TakesFront c d (w ++ last))
    → OnErr r (TakesFront a d (first ++ middle ++ last))
err_to_last r a b c d piece v w first middle last empty one two front =
    err_cut r a c d [] w (first ++ middle) last [] (first ++ middle ++ last)
    (ap (λ bytes. (first ++ middle) ++ bytes) (append-nil last))
    (puts_both a b c [] v w first middle (rw empty at one) two) front

-- no scene needs more than 74 bits
few_bits : (scene : SceneView) → IsLawfulScene scene → need_of (layout_of scene) ≤ 256
few_bits scene lawful = let is = scene_layout scene lawful in omega (arith, is.depth, is.number)

pub passes_lawful_in_all : (scene : SceneView) → IsLawfulScene scene → All IsLawfulSolid scene.solids
    → All (λ m. IsLawful m 256) (passes scene)
passes_lawful_in_all scene h solids = search (rules, passes_lawful, is_lawful_in_more, passes_are_lawful, few_bits)

pub passes_read_back : PassesAreReadBack
passes_read_back bits scene can few = search (rules, read_back, exponent_between)

pub scenes_grid : PassesHaveTheScenesGrid
scenes_grid scene lawful = grind (arith, exponent_is)

-- the picture law holds of a memory with as many zeros behind it as the layout may need, whose first bits come out
-- as those of the memory
pub show_the_picture : PlayedPassesShowThePicture
show_the_picture bits scene state can has x y left above =
    let grid = scenes_grid scene can.scene_is in
    let column : x < 2 ^ exponent_of scene.width = omega (arith, left, grid.columns.enough) in
    let row : y < 2 ^ exponent_of scene.height = omega (arith, above, grid.rows.enough) in
    let same = ap (λ (p : PixelBits). p.memory) (has x y column row) in
    let start = zero_bits bits in
    let need = need_of (layout_of scene) in
    let zeros = replicate need false in
    let long : length start.memory ≡ bits = length-replicate bits false in
    let room : need ≤ length (start.memory ++ zeros) =
    omega (arith, length-append start.memory zeros, length-replicate need false) in
    let alike : after_macros (passes scene) x y (padded start zeros) ≡ padded (played bits (passes_listing scene) x y)
    zeros =
    all_padded memory_stays_long (passes scene) x y start zeros
    (subst (λ n. All (λ m. IsLawful m n) (passes scene)) (sym long) can.lawful) in
    let shown : HasSight (layout_of scene) (padded (played bits (passes_listing scene) x y) zeros).memory
    (picture scene x y) =
    subst (λ (p : PixelBits). HasSight (layout_of scene) p.memory (picture scene x y)) alike
    (passes_leave_the_picture scene can.scene_is can.solids x y left above (padded start zeros) room) in
    subst (λ memory. HasSight (layout_of scene) memory (picture scene x y)) (sym same)
    (sight_same (layout_of scene) (played bits (passes_listing scene) x y).memory need (picture scene x y) shown)

-- The bounding boxes of a scene's solids at the cells of its picture.
use Rattle.px_num.proofs.Basics.{rules}
use Rattle.px_num.proofs.Basics.{ℕ, suc, zero, ◌≡◌, ◌<◌, ◌≤◌, ◌-◌, ◌^◌, ◌&&◌, Bool, true, false, List, [], nat_lt}
use Rattle.px_num.proofs.Basics.{refl, arith, Option, Some, None, ◌+◌, ◌∷◌, ◌++◌, length, get_or, slice_index_or, inl}
use Rattle.px_num.proofs.Basics.{inr, ap, ◌∙◌, if◌then◌else◌, slice_get, option_map_or, pow_mono, get_or-append_seam}
use Rattle.px_num.proofs.Basics.{cases_eq, cases_lt, slice_get_past}
use Rattle.px_prune.proofs.Words.{Block, CellBox, cells_of, depths, Depths, depths_of, far_of, has_face, has_pixel}
use Rattle.px_prune.proofs.Words.{is_in_box, is_inside, IsBoundingBox, IsBoxOf, kept_of, kept_products, leaf_cell}
use Rattle.px_prune.proofs.Words.{no_cell, Product, SceneView, solid_cell, SolidView, with_block}
use Rattle.std.proofs.Math.ListN.{get_or-append, get_or-eq_default}
use Rattle.std.proofs.lemmas.Option.{slice_get_read}
use Rattle.px_prune.proofs.HullLemmas.{no_box, same_box}
use Rattle.px_prune.proofs.BoundingLemmas.{bounding_boxes}
use Rattle.px_prune.proofs.BehindLemmas.{HasCells, is_in_or_behind}

in_picture : (x y width height : ℕ) (v : Bool) → x < width → y < height → v ≡ true → nat_lt x width && nat_lt y height
    && v ≡ true
in_picture x y width height v p q r = grind arith

one_behind : (box : Option CellBox) (x y z : ℕ) → is_in_box box x y z ≡ true → is_in_or_behind box x y (suc z) ≡ true
one_behind None x y z h = h
one_behind (Some b) x y z h = grind arith

was : (n : ℕ) (b c : Bool) (faces : List ℕ) → has_face n (if b && c then faces else []) ≡ true → b ≡ true
was n true c faces h = refl
was n false c faces h = h

-- a solid that hides a face was there one cell before
member_behind : (found : Option SolidView) (d : Depths) (x y z n : ℕ)
    → has_face n (option_map_or (solid_cell d x y (suc z)) found no_cell).hidden ≡ true
    → (option_map_or (solid_cell d x y z) found no_cell).member ≡ true
member_behind None d x y z n h = h
member_behind (Some s) d x y z n h = grind (arith, was)

-- and none is before the first cell
none_behind : (found : Option SolidView) (d : Depths) (x y n : ℕ)
    → has_face n (option_map_or (solid_cell d x y zero) found no_cell).hidden ≡ true → false ≡ true
none_behind None d x y n h = h
none_behind (Some s) d x y n h = h

module _ (scene : SceneView) (boxes : ℕ → Option CellBox) (bounding : (q : ℕ) → IsBoundingBox scene q (boxes q))
    (x y : ℕ) (left : x < scene.width) (up : y < scene.height) where
  member_in : (z q : ℕ) → (leaf_cell scene.solids (depths_of scene) x y z q).member ≡ true
      → is_in_box (boxes q) x y z ≡ true
  member_in z q h = search rules

  hidden_in : (z q n : ℕ) → has_face n (leaf_cell scene.solids (depths_of scene) x y z q).hidden ≡ true
      → is_in_or_behind (boxes q) x y z ≡ true
  hidden_in z q n h = grind (arith, none_behind, one_behind, member_in, member_behind)

  pub boxes_have_cells : (z : ℕ) → HasCells boxes x y z (leaf_cell scene.solids (depths_of scene) x y z)
  boxes_have_cells z = record { members = member_in z; hidden = hidden_in z }

-- the box of a scene's solid
pub known : (scene : SceneView) (q : ℕ) (ss : List SolidView) (s : SolidView) (b : Block) (box : Option CellBox)
    (far fraction_bits width height : ℕ) → q < length scene.solids → ss ≡ scene.solids → s ≡ get_or ss q s
    → far ≡ far_of scene → fraction_bits ≡ scene.fraction_bits → width ≡ scene.width → height ≡ scene.height
    → ((x y : ℕ) → has_pixel b x y ≡ (nat_lt x width && nat_lt y height))
    → ((cells : ℕ → ℕ → ℕ → Bool) → IsBoxOf cells None
    → IsBoxOf (with_block cells (is_inside s (depths far fraction_bits)) b) box)
    → IsBoundingBox scene q box
known scene q ss s b box far fraction_bits width height there solids read is_far is_fraction is_width is_height
    pixels grown =
    let found : slice_get scene.solids q ≡ Some s =
    slice_get_read scene.solids (length scene.solids) q s refl there (read ∙ ap (λ ts. get_or ts q s) solids)
    in let none : ℕ → ℕ → ℕ → Bool = λ x y z. false
    in same_box (with_block none (is_inside s (depths far fraction_bits)) b) (cells_of scene q) box
    (λ x y z. ap (λ there. there && is_inside s (depths far fraction_bits) x y z) (pixels x y)
    ∙ rw (found, is_far, is_fraction, is_width, is_height) refl)
    (grown none (no_box none (λ x y z. refl)))

-- no cell of a scene is past the places that a box can hold
pub small_far : (bits : ℕ) → bits ≤ 24 → 2 ^ bits - 1 < 2 ^ 32
small_far bits h = omega (arith, pow_mono {i = bits} {j = 24} h)

-- a solid that is not there has no box
unknown : (scene : SceneView) (q : ℕ) → length scene.solids ≤ q → IsBoundingBox scene q None
unknown scene q h = grind (arith, no_box, slice_get_past)

pub all_boxes : (scene : SceneView) (bs : List (Option CellBox)) → length bs ≡ length scene.solids
    → ((q : ℕ) → q < length bs → IsBoundingBox scene q (slice_index_or bs q None)) → (q : ℕ)
    → IsBoundingBox scene q (slice_index_or bs q None)
all_boxes scene bs same known q = elim (cases_lt q (length bs)) [
  | inl there ↦ known q there
  | inr past ↦ rw (get_or-eq_default bs None {n = q} past) (unknown scene q (omega (arith, same, past)))
]

pub next_box : (scene : SceneView) (bs cs : List (Option CellBox)) (box : Option CellBox) (n : ℕ) → length bs ≡ n
    → cs ≡ bs ++ box ∷ [] → ((q : ℕ) → q < n → IsBoundingBox scene q (slice_index_or bs q None))
    → IsBoundingBox scene n box → (q : ℕ) → q < n + 1 → IsBoundingBox scene q (slice_index_or cs q None)
next_box scene bs cs box n count pushed known new q lt = elim (cases_eq q n) [
  | inl last ↦ rw (pushed, last, ← count, get_or-append_seam bs box [] None) (rw count new)
  | inr before ↦ rw (pushed, get_or-append bs (box ∷ []) None q (omega arith)) (known q (omega arith))
]

pub is_kept : (scene : SceneView) (products kept given : List Product) (bs cs : List (Option CellBox))
    → ((q : ℕ) → IsBoundingBox scene q (slice_index_or bs q None)) → cs ≡ bs → given ≡ products
    → kept ≡ kept_products (λ q. slice_index_or cs q None) given → kept ≡ kept_of scene products
is_kept scene products kept given bs cs bounding same_boxes same list =
    list ∙ rw (same_boxes, same) (ap (λ boxes. kept_products boxes products)
    (bounding_boxes scene (λ q. slice_index_or bs q None) bounding))

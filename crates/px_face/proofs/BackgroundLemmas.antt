-- A pixel shows a face of the scene where it has a first cell, and face 0 elsewhere.
use Rattle.px_num.proofs.Basics.{◌≡◌, ◌<◌, ◌≤◌, ◌+◌, ℕ, zero, suc, ℤ, Bool, false, List, [], ◌∷◌, ◌++◌, length, min}
use Rattle.px_num.proofs.Basics.{Option, Some, None, sym, subst, arith, inl, inr, ◌↔◌, All, int_eq, cases_eq, All-nil}
use Rattle.px_num.proofs.Basics.{All-append, All-filter, All-map, sum_by-cons}
use Rattle.px_face.proofs.Words.{AreNumberedFrom, cell, Cell, combined, Depths, depths_of, Face, faces_at, faces_in}
use Rattle.px_face.proofs.Words.{faces_of, far_of, first, first_cell, FirstCellsAreFirst, is_member_at, IsFirst}
use Rattle.px_face.proofs.Words.{IsFirstOf, IsLawfulScene, IsLawfulSolid, leaf_cell, least, min_cases}
use Rattle.px_face.proofs.Words.{PicturesShowBackground, PicturesShowFaces, scene_before, scene_cell}
use Rattle.px_face.proofs.Words.{ScenesHaveSurfaces, SceneView, shown_in, shown_when, sight_at, solid_cell, SolidView}
use Rattle.px_face.proofs.Words.{value_at}
use Rattle.px_expr.specs.Tree.{Tree, join, leaf}
use Rattle.px_expr.specs.declared.node.Op.{Op}
use Rattle.px_expr.specs.declared.node.Sense.{Sense}
use Rattle.px_expr.specs.declared.node.Combination.{Combination}

first_tells : (test : ℕ → Bool) (limit : ℕ) → IsFirstOf test limit (first test limit)
first_tells test zero = λ n h. absurd (omega arith)
first_tells test (suc limit) = grind (arith, cases_eq, first_tells test limit)

pub first_cells : FirstCellsAreFirst
first_cells scene x y = first_tells (is_member_at scene x y) (far_of scene)

module _ (Is : ℕ → Type 0) where
  abbrev AreAll : List ℕ → Type 0
  AreAll ns = All Is ns

  record HasFaces (c : Cell) : Type 0 where
    shown : AreAll c.shown
    hidden : AreAll c.hidden

  all_both : (ms ns : List ℕ) → AreAll ms → AreAll ns → AreAll (ms ++ ns)
  all_both ms ns first second = All-append Is ms ns first second

  all_in : (sense : Sense) (c : Cell) → HasFaces c → AreAll (shown_in sense c)
  all_in x c faces = grind arith

  all_when : (k : Combination) (a b : Cell) → HasFaces a → HasFaces b → AreAll (shown_when k a b)
  all_when x a b left right = grind (arith, all_both)

  all_combined : (op : Op) (a b : Cell) → HasFaces a → HasFaces b → HasFaces (combined op a b)
  all_combined op a b left right = grind (arith, all_when)

  all_cell : (cells : ℕ → Cell) → ((solid : ℕ) → HasFaces (cells solid)) → (tree : Tree) → HasFaces (cell cells tree)
  all_cell cells each (leaf solid) = each solid
  all_cell cells each (join op left right) = all_combined op _ _ (all_cell cells each left) (all_cell cells each right)

  all_faces : (faces : List Face) (x y : ℕ) (v : ℤ) → All (λ f. Is f.number) faces → AreAll (faces_at faces x y v)
  all_faces faces x y v all =
      All-map Is (λ f. f.number) _ (All-filter (λ f. int_eq (value_at f.plane x y) v) (λ f. Is f.number) faces all)

  all_solid : (s : SolidView) (d : Depths) (x y z : ℕ) → Is s.near_number → All (λ f. Is f.number) s.fronts
      → All (λ f. Is f.number) s.backs → HasFaces (solid_cell d x y z s)
  all_solid s d x y z near fronts backs = grind (arith, all_faces)

  none_at : HasFaces (record { member = false; shown = []; hidden = [] })
  none_at = record { shown = All-nil Is; hidden = All-nil Is }

  lesser : (a b : ℕ) → Is a → Is b → Is (min a b)
  lesser a b first second = elim (min_cases a b) [ inl e ↦ subst Is (sym e) first | inr e ↦ subst Is (sym e) second ]

  least_is : (ns : List ℕ) → 0 < length ns → AreAll ns → Is (least ns)
  least_is [] some all = absurd (omega arith)
  least_is (n ∷ []) some all = all 0 n (omega arith)
  least_is (n ∷ m ∷ ns) some all =
      lesser n (least (m ∷ ns)) (all 0 n (omega arith))
      (least_is (m ∷ ns) (omega arith) (λ k any lt. all (suc k) any (omega arith)))

-- each face is one of so many
leaf_below : (solids : List SolidView) (first bound : ℕ) (d : Depths) (x y z solid : ℕ) → AreNumberedFrom first solids
    → first + faces_of solids ≤ bound → HasFaces (λ n. n < bound) (leaf_cell solids d x y z solid)
leaf_below [] first bound d x y z solid numbered le = none_at (λ n. n < bound)
leaf_below (s ∷ ss) first bound d x y z zero numbered le =
    let fits : first + faces_in s ≤ bound = omega (arith, le, sum_by-cons faces_in s ss) in
    all_solid (λ n. n < bound) s d x y z (omega (arith, numbered.0.near, fits))
    (raised s.fronts fits numbered.0.fronts) (raised s.backs fits numbered.0.backs)
  where
    raised : (faces : List Face) → first + faces_in s ≤ bound → All (λ f. f.number < first + faces_in s) faces
        → All (λ f. f.number < bound) faces
    raised faces fits all = λ k any lt. let one = all k any lt in omega (arith, one, fits)
leaf_below (s ∷ ss) first bound d x y z (suc solid) numbered le =
    leaf_below ss (first + faces_in s) bound d x y z solid numbered.1 (omega (arith, le, sum_by-cons faces_in s ss))

-- no face has the number 0
leaf_some : (solids : List SolidView) (first : ℕ) (d : Depths) (x y z solid : ℕ) → 0 < first
    → AreNumberedFrom first solids → All IsLawfulSolid solids → HasFaces (λ n. 0 < n) (leaf_cell solids d x y z solid)
leaf_some [] first d x y z solid some numbered lawful = none_at (λ n. 0 < n)
leaf_some (s ∷ ss) first d x y z zero some numbered lawful =
    let one = lawful 0 s (omega arith) in
    all_solid (λ n. 0 < n) s d x y z (omega (arith, numbered.0.near, some)) (raised s.fronts one.fronts.numbers)
    (raised s.backs one.backs.numbers)
  where
    raised : (faces : List Face) → All (λ f. s.near_number < f.number) faces → All (λ f. 0 < f.number) faces
    raised faces all = λ k any lt. let one = all k any lt in omega (arith, one)
leaf_some (s ∷ ss) first d x y z (suc solid) some numbered lawful =
    leaf_some ss (first + faces_in s) d x y z solid (omega (arith, some)) numbered.1
    (λ k any lt. lawful (suc k) any (omega arith))

module _ (surfaces : ScenesHaveSurfaces) (scene : SceneView) (lawful : IsLawfulScene scene) (x y : ℕ) where
  abbrev d : Depths
  d = depths_of scene

  abbrev test : ℕ → Bool
  test = is_member_at scene x y

  abbrev far : ℕ
  far = far_of scene

  before_first : (z : ℕ) → IsFirst test far z → (scene_before scene x y z).member ≡ false
  before_first x r = grind arith

  -- the first cell shows a face
  pub begins : (z : ℕ) → IsFirst test far z → 0 < length (scene_cell scene x y z).shown
  begins z r = (surfaces scene lawful x y z r.below).first (before_first z r) r.passes

  face_below : (found : Option ℕ) → IsFirstOf test far found → (sight_at scene x y found).face ≤ faces_of scene.solids
  face_below None r = omega arith
  face_below (Some z) r =
      let bound = 1 + faces_of scene.solids in
      let each = λ (solid : ℕ). leaf_below scene.solids 1 bound d x y z solid lawful.numbers (omega arith) in
      let all = all_cell (λ n. n < bound) (leaf_cell scene.solids d x y z) each scene.show in
      let low : least (scene_cell scene x y z).shown < bound =
      least_is (λ n. n < bound) (scene_cell scene x y z).shown (begins z r) all.shown in
      omega (arith, low)

  face_some : (z : ℕ) → All IsLawfulSolid scene.solids → IsFirst test far z → 0 < (sight_at scene x y (Some z)).face
  face_some z solids r =
      let each = λ (solid : ℕ). leaf_some scene.solids 1 d x y z solid (omega arith) lawful.numbers solids in
      let all = all_cell (λ n. 0 < n) (leaf_cell scene.solids d x y z) each scene.show in
      least_is (λ n. 0 < n) (scene_cell scene x y z).shown (begins z r) all.shown

  face_none : All IsLawfulSolid scene.solids → (found : Option ℕ) → IsFirstOf test far found
      → ((sight_at scene x y found).face ≡ 0) ↔ (found ≡ None)
  face_none solids x r = grind (arith, face_some)

pub shows_faces : ScenesHaveSurfaces → PicturesShowFaces
shows_faces surfaces scene lawful x y =
    face_below surfaces scene lawful x y (first_cell scene x y) (first_cells scene x y)

pub shows_background : ScenesHaveSurfaces → PicturesShowBackground
shows_background surfaces scene lawful solids x y = grind (arith, face_none, first_cells)

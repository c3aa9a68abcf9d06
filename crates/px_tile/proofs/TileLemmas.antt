-- A tile's solids have at its pixels the cells and the faces that the scene's have in the wide picture.
use Rattle.px_num.proofs.Basics.{◌≡◌, ℕ, zero, suc, ◌+◌, ℤ, pos, ◌+ℤ◌, Bool, List, [], ◌∷◌, Option, Some, None, map}
use Rattle.px_num.proofs.Basics.{slice_get, true, false, if◌then◌else◌, refl, ap, ◌∙◌, arith, fold, list_all, int_max}
use Rattle.px_num.proofs.Basics.{int_min, ints, slice_get-map}
use Rattle.px_num.specs.declared.linear.Linear.{Linear}
use Rattle.px_num.specs.Forms.{value_at}
use Rattle.px_num.proofs.FormLaws.{times_sum}
use Rattle.px_expr.specs.Cells.{Cell, cell}
use Rattle.px_expr.specs.Tree.{Tree, leaf, join}
use Rattle.px_model.specs.declared.solid.Face.{Face}
use Rattle.px_model.specs.Scenes.{SolidView, SceneView}
use Rattle.px_model.specs.Cells.{Depths, backs_at, end_of, enters_at, faces_at, first, first_cell, fronts_at}
use Rattle.px_model.specs.Cells.{is_inside_at, is_inside_before, leaf_cell, leaves_at, picture, scene_cell, sight_at}
use Rattle.px_model.specs.Cells.{solid_cell, value_of}
use Rattle.px_model.specs.declared.pixels.Pixels.TheVariants.{StartingAt}
use Rattle.px_model.specs.Pixels.{face_over, plane_over, solid_over}
use Rattle.px_tile.specs.Tiles.{tile_scene, wide_scene}

turned : (p q u v c : ℤ) → (u +ℤ v) +ℤ ((p +ℤ q) +ℤ c) ≡ ((p +ℤ u) +ℤ (q +ℤ v)) +ℤ c
turned p q u v c = omega (arith, ints)

pub value_moved : (x0 y0 x y : ℕ) (plane : Linear)
    → value_at (plane_over (StartingAt x0 y0) plane) x y ≡ value_at plane (x0 + x) (y0 + y)
value_moved x0 y0 x y plane = grind (arith, turned, times_sum)

-- tests and values of moved things, where each has that of the other before it was moved
all_moved : {X Y : Type 0} (f : Y → X) (p : X → Bool) (q : Y → Bool) → ((y : Y) → p (f y) ≡ q y)
    → (ys : List Y) → list_all p (map f ys) ≡ list_all q ys
all_moved f p q same [] = refl
all_moved f p q same (y ∷ ys) = rw (same y, all_moved f p q same ys) refl

map_moved : {X Y Z : Type 0} (f : Y → X) (p : X → Z) (q : Y → Z) → ((y : Y) → p (f y) ≡ q y)
    → (ys : List Y) → map p (map f ys) ≡ map q ys
map_moved f p q same [] = refl
map_moved f p q same (y ∷ ys) = rw (same y, map_moved f p q same ys) refl

with_face : (b : Bool) (f g : Face) (fs gs : List Face) → f.number ≡ g.number → map (λ h. h.number) fs
    ≡ map (λ h. h.number) gs
    → map (λ h. h.number) (if b then f ∷ fs else fs) ≡ map (λ h. h.number) (if b then g ∷ gs else gs)
with_face true f g fs gs same others = rw (same, others) refl
with_face false f g fs gs same others = others

module _ (x0 y0 x y : ℕ) where
  value_of_face : (face : Face) → value_at (face_over (StartingAt x0 y0) face).plane x y ≡ value_at face.plane
      (x0 + x) (y0 + y)
  value_of_face face = value_moved x0 y0 x y face.plane

  values_moved : (faces : List Face) → map (λ f. value_at f.plane x y) (map (face_over (StartingAt x0 y0)) faces)
      ≡ map (λ f. value_at f.plane (x0 + x) (y0 + y)) faces
  values_moved faces = grind (arith, map_moved, value_of_face)

  enters_moved : (s : SolidView) → enters_at (solid_over (StartingAt x0 y0) s) x y ≡ enters_at s (x0 + x) (y0 + y)
  enters_moved s = ap (fold int_max (pos 0)) (values_moved s.fronts)

  leaves_moved : (s : SolidView) (end : ℕ) → leaves_at (solid_over (StartingAt x0 y0) s) end x y
      ≡ leaves_at s end (x0 + x) (y0 + y)
  leaves_moved s end = ap (fold int_min (pos end)) (values_moved s.backs)

  faces_moved : (faces : List Face) (v : ℤ)
      → faces_at (map (face_over (StartingAt x0 y0)) faces) x y v ≡ faces_at faces (x0 + x) (y0 + y) v
  faces_moved [] v = refl
  faces_moved (face ∷ faces) v = grind (arith, value_of_face, with_face, faces_moved faces v)

  inside_at_moved : (s : SolidView) (end v : ℕ)
      → is_inside_at (solid_over (StartingAt x0 y0) s) end x y v ≡ is_inside_at s end (x0 + x) (y0 + y) v
  inside_at_moved s end v = grind (arith, all_moved, value_moved, value_of_face)

  before_moved : (s : SolidView) (d : Depths) (z : ℕ) → is_inside_before (solid_over (StartingAt x0 y0) s) d x y z
      ≡ is_inside_before s d (x0 + x) (y0 + y) z
  before_moved s d zero = refl
  before_moved s d (suc z) = inside_at_moved s (end_of d) (value_of d z)

  fronts_moved : (s : SolidView) (d : Depths) (z : ℕ) → fronts_at (solid_over (StartingAt x0 y0) s) d x y z
      ≡ fronts_at s d (x0 + x) (y0 + y) z
  fronts_moved s d z = rw (enters_moved s, faces_moved s.fronts (enters_at s (x0 + x) (y0 + y))) refl

  backs_moved : (s : SolidView) (d : Depths) (z : ℕ)
      → backs_at (solid_over (StartingAt x0 y0) s) d x y z ≡ backs_at s d (x0 + x) (y0 + y) z
  backs_moved s d z = grind (arith, before_moved, leaves_moved, faces_moved)

  solid_moved : (d : Depths) (z : ℕ) (s : SolidView) → solid_cell d x y z (solid_over (StartingAt x0 y0) s)
      ≡ solid_cell d (x0 + x) (y0 + y) z s
  solid_moved d z s = rw (inside_at_moved s (end_of d) (value_of d z), fronts_moved s d z, backs_moved s d z) refl

  leaf_moved : (solids : List SolidView) (d : Depths) (z solid : ℕ)
      → leaf_cell (map (solid_over (StartingAt x0 y0)) solids) d x y z solid ≡ leaf_cell solids d (x0 + x)
      (y0 + y) z solid
  leaf_moved solids d z solid = grind (arith, slice_get-map, slice_get, solid_moved)

-- an expression over the same cells
same_cell : (f g : ℕ → Cell) → ((solid : ℕ) → f solid ≡ g solid) → (tree : Tree) → cell f tree ≡ cell g tree
same_cell f g same (leaf solid) = same solid
same_cell f g same (join op left right) = rw (same_cell f g same left, same_cell f g same right) refl

same_first : (p q : ℕ → Bool) → ((z : ℕ) → p z ≡ q z) → (n : ℕ) → first p n ≡ first q n
same_first p q same zero = refl
same_first p q same (suc n) = grind (arith, same_first p q same n)

pub tile_shows : (scene : SceneView) (x0 y0 width height wide high x y : ℕ)
    → picture (tile_scene scene x0 y0 width height) x y ≡ picture (wide_scene scene wide high) (x0 + x) (y0 + y)
tile_shows scene x0 y0 width height wide high x y =
    let tile = tile_scene scene x0 y0 width height in
    let whole = wide_scene scene wide high in
    let cells : (z : ℕ) → scene_cell tile x y z ≡ scene_cell whole (x0 + x) (y0 + y) z =
    grind (arith, same_cell, leaf_moved) in
    let firsts : first_cell tile x y ≡ first_cell whole (x0 + x) (y0 + y) = grind (arith, same_first) in
    ap (sight_at tile x y) firsts ∙ sights cells (first_cell whole (x0 + x) (y0 + y))
  where
    sights : ((z : ℕ) → scene_cell (tile_scene scene x0 y0 width height) x y z
        ≡ scene_cell (wide_scene scene wide high) (x0 + x) (y0 + y) z)
        → (found : Option ℕ) → sight_at (tile_scene scene x0 y0 width height) x y found
        ≡ sight_at (wide_scene scene wide high) (x0 + x) (y0 + y) found
    sights cells None = refl
    sights cells (Some z) = rw (cells z) refl

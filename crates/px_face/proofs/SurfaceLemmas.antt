-- Where a solid begins it shows a front, and just after its end it hides a back; and so does a scene.
use Rattle.px_num.proofs.Basics.{rules}
use Rattle.px_num.proofs.Basics.{common_steps, ◌≡◌, ◌<◌, ◌&&◌, ℕ, zero, suc, ℤ, pos, Bool, true, false, nat_le, nat_lt}
use Rattle.px_num.proofs.Basics.{List, [], ◌∷◌, ◌++◌, length, map, Option, Some, None, refl, sym, ◌∙◌, arith, inl, inr}
use Rattle.px_num.proofs.Basics.{if◌then◌else◌, slice_get, option_map_or, int_eq, ints, nat_tests}
use Rattle.px_face.proofs.Words.{backs_at, cell, Cell, cell_of, Depths, depths_of, end_of}
use Rattle.px_face.proofs.Words.{enters_at, Face, faces_at, far_of, fronts_at, greatest_fronts, HasSurface}
use Rattle.px_face.proofs.Words.{int_same_true, is_inside, is_member, is_met, IsLawfulScene, leaf_cell, leaves_at}
use Rattle.px_face.proofs.Words.{no_cell, NoMemberBehind, same_true, scene_before, scene_cell}
use Rattle.px_face.proofs.Words.{ScenesHaveSurfaces, SceneView, solid_before, solid_cell, SolidView, value_at}
use Rattle.std.specs.List.{Contains}
use Rattle.std.proofs.lemmas.Int.{fold-int_max_reached, fold-int_min_reached}
use Rattle.std.proofs.lemmas.List.{length-append}
use Rattle.px_expr.specs.Tree.{HasLeavesBelow, Tree, join, leaf}
use Rattle.px_expr.proofs.CellsLemmas.{has_surface, member_of_cell}
use Rattle.px_expr.proofs.OperatorLaws.{none_of_none}
use Rattle.px_face.proofs.CellLemmas.{has_cells}

-- the faces of a value that one of them has
faces_there : (fs : List Face) (x y : ℕ) (v : ℤ) → Contains (map (λ f. value_at f.plane x y) fs) v
    → 0 < length (faces_at fs x y v)
faces_there [] x y v c = absurd (omega (arith, c.1))
faces_there (f ∷ fs) x y v (zero, low, c) = grind (arith, int_same_true)
faces_there (f ∷ fs) x y v (suc k, low, c) = grind (arith, faces_there fs x y v (k, omega (arith, low), c))

module _ (s : SolidView) (d : Depths) (x y : ℕ) where
  abbrev limit : ℕ
  limit = end_of d

  abbrev enters : ℤ
  enters = enters_at s x y

  abbrev leaves : ℤ
  leaves = leaves_at s limit x y

  abbrev start : ℕ
  start = cell_of d enters

  abbrev last : ℕ
  last = cell_of d leaves

  greatest_there : 0 < length (greatest_fronts s x y)
  greatest_there = elim (fold-int_max_reached (pos 0) (map (λ f. value_at f.plane x y) s.fronts) enters refl) [
    | inl e ↦ near (int_eq (pos 0) enters) (same enters e)
    | inr c ↦ grind (arith, length-append, faces_there)
  ]
    where
      same : (v : ℤ) → v ≡ pos 0 → int_eq (pos 0) v ≡ true
      same v h = grind (arith, ints)

      near : (b : Bool) → b ≡ true → 0 < length ((if b then s.near_number ∷ [] else []) ++ faces_at s.fronts x y enters)
      near true e = omega arith
      near false e = absurd cc

  fronts_there : (z : ℕ) → start ≡ z → 0 < length (fronts_at s d x y z)
  fronts_there z e = rw (same_true start z e) greatest_there

  inside_is : (z : ℕ) → (is_met s limit x y && nat_le start z && nat_lt z last) ≡ is_inside s d x y z
  inside_is z = sym ((has_cells s d x y).cells z)

  front_starts : is_inside s d x y 0 ≡ true → 0 < length (fronts_at s d x y 0)
  front_starts inside = fronts_there 0 (first_is (is_met s limit x y) start last (inside_is 0 ∙ inside)) where
    first_is : (m : Bool) (first last : ℕ) → (m && nat_le first 0 && nat_lt 0 last) ≡ true → first ≡ 0
    first_is m first last h = grind arith

  front_begins : (z : ℕ) → is_inside s d x y z ≡ false → is_inside s d x y (suc z) ≡ true
      → 0 < length (fronts_at s d x y (suc z))
  front_begins z outside inside =
      fronts_there (suc z) (next_is (is_met s limit x y) start last z (inside_is z ∙ outside) (inside_is (suc z)
      ∙ inside))
    where
      next_is : (m : Bool) (first last z : ℕ) → (m && nat_le first z && nat_lt z last) ≡ false
          → (m && nat_le first (suc z) && nat_lt (suc z) last) ≡ true → first ≡ suc z
      next_is m first last z p q = grind arith

  -- the cell of the far limit's value is not before it
  not_limit : (z : ℕ) → z < d.far → leaves ≡ pos limit → last ≡ z → ⊥
  not_limit z before is e = search rules

  back_ends : (z : ℕ) → suc z < d.far → is_inside s d x y z ≡ true → is_inside s d x y (suc z) ≡ false
      → 0 < length (backs_at s d x y (suc z))
  back_ends z before inside outside =
      let e = last_is (is_met s limit x y) start last z (inside_is z ∙ inside) (inside_is (suc z) ∙ outside) in
      elim (fold-int_min_reached (pos limit) (map (λ f. value_at f.plane x y) s.backs) leaves refl) [
        | inl at_end ↦ absurd (not_limit (suc z) before at_end e)
        | inr c ↦ rw (inside, same_true last (suc z) e) (faces_there s.backs x y leaves c)
      ]
    where
      last_is : (m : Bool) (first last z : ℕ) → (m && nat_le first z && nat_lt z last) ≡ true
          → (m && nat_le first (suc z) && nat_lt (suc z) last) ≡ false → last ≡ suc z
      last_is m first last z p q = grind arith

pub solid_surface : (s : SolidView) (d : Depths) (x y z : ℕ) → z < d.far → HasSurface (solid_before d x y z s)
    (solid_cell d x y z s)
solid_surface s d x y z low = grind (arith, front_starts, front_begins, back_ends)

-- where no solid has a cell, no expression has one
none_member : (inside : ℕ → Bool) → ((solid : ℕ) → inside solid ≡ false) → (tree : Tree) → is_member inside tree ≡ false
none_member inside none (leaf solid) = none solid
none_member inside none (join op left right) =
    rw (none_member inside none left, none_member inside none right) (none_of_none op)

-- the laws of the cells of expressions
abbrev pub SurfaceLaw : Type 0
SurfaceLaw = (before : ℕ → Cell) (now : ℕ → Cell) (count : ℕ) →
    ((solid : ℕ) → solid < count → HasSurface (before solid) (now solid)) →
    (tree : Tree) → HasLeavesBelow count tree → HasSurface (cell before tree) (cell now tree)

abbrev pub MemberLaw : Type 0
MemberLaw = (solid_at : ℕ → Cell) (tree : Tree) → (cell solid_at tree).member
    ≡ is_member (λ solid. (solid_at solid).member) tree

pub none_behind : MemberLaw → NoMemberBehind
none_behind member scene x y z past = grind (arith, nat_tests, common_steps, none_member, slice_get)

-- the solid of an index at the cell before
abbrev leaf_before : List SolidView → Depths → (x y z solid : ℕ) → Cell
leaf_before solids d x y z solid = option_map_or (solid_before d x y z) (slice_get solids solid) no_cell

leaf_surface : (solids : List SolidView) (d : Depths) (x y z solid : ℕ) → z < d.far
    → HasSurface (leaf_before solids d x y z solid) (leaf_cell solids d x y z solid)
leaf_surface solids d x y z solid low = each (slice_get solids solid) where
  each : (found : Option SolidView) → HasSurface (option_map_or (solid_before d x y z) found no_cell)
      (option_map_or (solid_cell d x y z) found no_cell)
  each None = record { first = λ before now. absurd cc; behind = λ before now. absurd cc }
  each (Some s) = solid_surface s d x y z low

module _ (surface : SurfaceLaw) (member : MemberLaw) (scene : SceneView) (lawful : IsLawfulScene scene) (x y : ℕ) where
  abbrev d : Depths
  d = depths_of scene

  abbrev at_before : ℕ → ℕ → Cell
  at_before z = leaf_before scene.solids d x y z

  surface_of : (z : ℕ) → z < far_of scene → HasSurface (cell (at_before z) scene.show) (scene_cell scene x y z)
  surface_of z low = grind (arith, leaf_surface)

  none_at_start : (cell (at_before 0) scene.show).member ≡ false
  none_at_start = grind (arith, none_member, slice_get)

  pub scene_has_surface : (z : ℕ) → z < far_of scene → HasSurface (scene_before scene x y z) (scene_cell scene x y z)
  scene_has_surface zero low = record {
    first = λ before now. (surface_of 0 low).first none_at_start now;
    behind = λ before now. absurd cc;
  }
  scene_has_surface (suc z) low = surface_of (suc z) low

pub scene_surface : ScenesHaveSurfaces
scene_surface scene lawful x y z low = scene_has_surface has_surface member_of_cell scene lawful x y z low

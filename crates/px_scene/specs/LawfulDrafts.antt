-- What the drafts of good lines keep. Only proofs and private functions stand on it.
use Rattle.std.specs.Prelude.{◌≡◌, ◌≢◌, ℕ, ◌+◌, ◌-◌, ◌<◌, ◌≤◌, Bool, true, false, List, length, All}
use Rattle.std.specs.Prelude.{AllPairs, slice_get, IfSome, IsSomeAnd, Option}
use Rattle.std.specs.List.{AllPass}
use Rattle.px_expr.specs.Tree.{HasLeavesBelow, Tree}
use Rattle.px_model.specs.declared.limits.TheConstants.{MAX_FACES, MAX_SOLIDS}
use Rattle.px_model.specs.Scenes.{AreSizes, SolidView, names_of, AreNumberedFrom, faces_of}
use Rattle.px_text.specs.Text.{is_name}
use Rattle.px_scene.specs.declared.line.Due.{Due}
use Rattle.px_scene.specs.declared.line.Due.TheVariants as d
use Rattle.px_scene.specs.Drafts.{DraftView}

-- a number above those of all faces so far
pub record CanTakeFace (number : ℕ) (s : SolidView) : Type 0 where
  pub near : s.near_number < number
  pub fronts : All (λ f. f.number < number) s.fronts
  pub backs : All (λ f. f.number < number) s.backs

-- lines of planes come after the line of a solid
abbrev pub is_begun : Due → Bool
is_begun d.Header = false
is_begun d.Picture = false
is_begun d.Depth = false
is_begun d.Solid = false
is_begun d.Plane = true
is_begun d.End = true
is_begun d.Nothing = true

-- and the end comes after the line of the expression
abbrev pub is_ended : Due → Bool
is_ended d.Header = false
is_ended d.Picture = false
is_ended d.Depth = false
is_ended d.Solid = false
is_ended d.Plane = false
is_ended d.End = true
is_ended d.Nothing = true

-- named solids within their limits, whose faces have the numbers up to this one
pub record AreNumbered (numbered : ℕ) (solids : List SolidView) : Type 0 where
  pub few : length solids ≤ MAX_SOLIDS
  pub names : AllPass is_name (names_of solids)
  pub different : AllPairs (λ m n. m ≢ n) (names_of solids)
  pub numbers : AreNumberedFrom 1 solids
  pub count : numbered ≡ faces_of solids
  pub faces : numbered ≤ MAX_FACES

-- what stands already, by what is expected: a solid, and the expression of so many
pub record IsTimely (due : Due) (show : Option Tree) (count : ℕ) : Type 0 where
  pub begun : is_begun due ≡ true → 0 < count
  pub shown : is_ended due ≡ true → IsSomeAnd show (HasLeavesBelow count)

pub record IsLawfulDraft (draft : DraftView) : Type 0 where
  pub sizes : AreSizes draft.width draft.height draft.depth_bits draft.fraction_bits
  pub solids : AreNumbered draft.numbered draft.solids
  pub timely : IsTimely draft.due draft.show (length draft.solids)

-- the next number is above those of the last solid's faces
abbrev pub CanBeTaken : ℕ → List SolidView → Type 0
CanBeTaken numbered solids = IfSome (slice_get solids (length solids - 1)) (CanTakeFace (numbered + 1))

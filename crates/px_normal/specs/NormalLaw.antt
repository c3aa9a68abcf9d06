-- The normal-form law: at every cell the products hold where the expression has a member,
-- and show the faces that it shows. Clauses of public calls stand on it.
use Rattle.std.specs.Prelude.{ℕ, ◌≡◌, Bool, ◌&&◌, ◌||◌, not, List}
use Rattle.std.specs.List.{list_all, list_any}
use Rattle.px_expr.specs.Cells.{Cell, has_face}
use Rattle.px_normal.specs.declared.product.Product.{Product}
use Rattle.px_normal.specs.Sets.{solids}
use Rattle.px_normal.specs.Forms.{Forms}

-- the cell is inside every plain solid and inside no barred one
abbrev pub holds : (ℕ → Cell) → Product → Bool
holds solid_at product =
    list_all (λ solid. (solid_at solid).member) (solids product.plain)
    && list_all (λ solid. not (solid_at solid).member) (solids product.barred)

-- a plain solid shows the face, or a barred one hides it
abbrev pub shows : (ℕ → Cell) → ℕ → Product → Bool
shows solid_at face product =
    list_any (λ solid. has_face face (solid_at solid).shown) (solids product.plain)
    || list_any (λ solid. has_face face (solid_at solid).hidden) (solids product.barred)

abbrev pub some_holds : (ℕ → Cell) → List Product → Bool
some_holds solid_at products = list_any (holds solid_at) products

-- some product that holds shows the face
abbrev pub some_shows : (ℕ → Cell) → ℕ → List Product → Bool
some_shows solid_at face products =
    list_any (λ product. holds solid_at product && shows solid_at face product) products

pub record IsNormalForm (solid_at : ℕ → Cell) (forms : Forms) (cell : Cell) : Type 0 where
  pub members : some_holds solid_at forms.products ≡ cell.member
  pub others : some_holds solid_at forms.complement ≡ not cell.member
  pub shown : (face : ℕ) →
      some_shows solid_at face forms.products ≡ (cell.member && has_face face cell.shown)
  pub hidden : (face : ℕ) →
      some_shows solid_at face forms.complement ≡ (not cell.member && has_face face cell.hidden)

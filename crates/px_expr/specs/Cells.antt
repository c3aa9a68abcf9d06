-- What an expression is at a cell of a ray: a member or not, and the faces shown or hidden there. Clauses of public
-- calls stand on it. It follows from what each solid is at that cell, whatever that may be. All that is said of an
-- operator follows from its combination: which cells are members, the faces shown and hidden there, and the
-- products of its normal form.
use Rattle.std.specs.Prelude.{Bool, ◌&&◌, ◌||◌, not, ℕ, ◌≡◌, ◌<◌, ◌==◌, true, false, List, [], ◌++◌, length}
use Rattle.std.specs.Prelude.{if◌then◌else◌, slice_index_or}
use Rattle.px_expr.specs.declared.node.Op.{Op}
use Rattle.px_expr.specs.declared.node.Sense.{Sense}
use Rattle.px_expr.specs.declared.node.Sense.TheVariants.{Plain, Complement}
use Rattle.px_expr.specs.declared.node.Combination.{Combination}
use Rattle.px_expr.specs.declared.node.Combination.TheVariants.{Both, Either, EitherWay}
use Rattle.std.specs.List.{list_any}
use Rattle.px_expr.specs.Tree.{Tree, leaf, join}
use Rattle.px_expr.specs.declared.node.Op.TheVariants as o

-- a difference is of the left side and of the complement of the right one; of a symmetric
-- difference one side is taken and the other's complement, either way
abbrev pub combination_of : Op → Combination
combination_of o.Union = Either Plain Plain
combination_of o.Meet = Both Plain Plain
combination_of o.Minus = Both Plain Complement
combination_of o.Differ = EitherWay Complement

-- the other sense
abbrev pub opposite : Sense → Sense
opposite Plain = Complement
opposite Complement = Plain

-- what a combination lacks: of both it lacks what either lacks, and of either what both lack
abbrev pub complement_of : Combination → Combination
complement_of (Both left right) = Either (opposite left) (opposite right)
complement_of (Either left right) = Both (opposite left) (opposite right)
complement_of (EitherWay sense) = EitherWay (opposite sense)

-- whether a cell is in a side in its sense, by whether it is in the side
abbrev pub truth_in : Sense → Bool → Bool
truth_in Plain side = side
truth_in Complement side = not side

-- whether a cell is in a combination, by whether it is in each side
abbrev pub truth_when : Combination → Bool → Bool → Bool
truth_when (Both first second) left right = truth_in first left && truth_in second right
truth_when (Either first second) left right = truth_in first left || truth_in second right
truth_when (EitherWay sense) left right =
    (left && truth_in sense right) || (not left && truth_in (opposite sense) right)

-- whether a cell is in the whole, by whether it is in each side
abbrev pub truth_of : Op → Bool → Bool → Bool
truth_of op left right = truth_when (combination_of op) left right

-- whether a cell belongs to an expression, by the solids that the cell is inside
abbrev pub is_member : (ℕ → Bool) → Tree → Bool
is_member inside (leaf solid) = inside solid
is_member inside (join op left right) = truth_of op (is_member inside left) (is_member inside right)

-- the solids that have a true value in a list
abbrev pub is_true : List Bool → ℕ → Bool
is_true inside solid = slice_index_or inside solid false

-- the faces shown where the cell is a member, and the faces hidden where it is none
pub record Cell : Type 0 where
  pub member : Bool
  pub shown : List ℕ
  pub hidden : List ℕ

-- the faces, where the test holds
abbrev pub where_true : Bool → List ℕ → List ℕ
where_true test faces = if test then faces else []

-- what a side shows in its sense: a complement shows what the side hides
abbrev pub shown_in : Sense → Cell → List ℕ
shown_in Plain side = side.shown
shown_in Complement side = side.hidden

-- what a side shows where it has the cell in its sense
abbrev pub shown_where : Sense → Cell → List ℕ
shown_where sense side = where_true (truth_in sense side.member) (shown_in sense side)

-- the faces of a side: shown where it has the cell, otherwise hidden
abbrev pub own_faces : Cell → List ℕ
own_faces side = if side.member then side.shown else side.hidden

-- where both sides are needed, both show; of either, each that has the cell; either way each
-- side changes the whole, and its own faces show
abbrev pub shown_when : Combination → Cell → Cell → List ℕ
shown_when (Both first second) left right = shown_in first left ++ shown_in second right
shown_when (Either first second) left right = shown_where first left ++ shown_where second right
shown_when (EitherWay sense) left right = own_faces left ++ own_faces right

-- what is hidden is what the complement shows
abbrev pub combined : Op → Cell → Cell → Cell
combined op left right = record {
  member = truth_of op left.member right.member;
  shown = shown_when (combination_of op) left right;
  hidden = shown_when (complement_of (combination_of op)) left right;
}

-- an expression at a cell: a solid as it is there, and otherwise its sides combined
abbrev pub cell : (ℕ → Cell) → Tree → Cell
cell solid_at (leaf solid) = solid_at solid
cell solid_at (join op left right) = combined op (cell solid_at left) (cell solid_at right)

-- whether a face is one of some
abbrev pub has_face : ℕ → List ℕ → Bool
has_face face faces = list_any (λ other. other == face) faces

-- a face shows at the first cell, and a face is hidden just behind the last
pub record HasSurface (before now : Cell) : Type 0 where
  pub first : before.member ≡ false → now.member ≡ true → 0 < length now.shown
  pub behind : before.member ≡ true → now.member ≡ false → 0 < length now.hidden

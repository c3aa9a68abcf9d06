-- Surfaces and members of joined expressions.
use Rattle.px_num.proofs.Basics.{arith, ℕ, ◌≡◌, ◌<◌, refl}
use Rattle.px_expr.proofs.Words.{Cell, cell, combined, HasLeavesBelow, HasSurface, is_member, join, leaf, Op, Tree}
use Rattle.px_expr.proofs.CombinationLaws.{combination_begins, truth_of_complement}

has_combined : (op : Op) (a b c d : Cell) → HasSurface a c → HasSurface b d
    → HasSurface (combined op a b) (combined op c d)
has_combined op a b c d left right = grind (arith, combination_begins, truth_of_complement)

pub has_surface : (before now : ℕ → Cell) (count : ℕ)
    → ((solid : ℕ) → solid < count → HasSurface (before solid) (now solid))
    → (tree : Tree) → HasLeavesBelow count tree → HasSurface (cell before tree) (cell now tree)
has_surface before now count each (leaf solid) below = each solid below
has_surface before now count each (join op left right) below =
    has_combined op _ _ _ _ (has_surface before now count each left below.0)
    (has_surface before now count each right below.1)

pub member_of_cell : (solid_at : ℕ → Cell) (tree : Tree) → (cell solid_at tree).member
    ≡ is_member (λ solid. (solid_at solid).member) tree
member_of_cell solid_at (leaf solid) = refl
member_of_cell solid_at (join op left right) = rw (member_of_cell solid_at left, member_of_cell solid_at right) refl

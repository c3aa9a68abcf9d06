-- The depths that the greatest front and the least back leave.
use Rattle.px_num.proofs.Basics.{ℕ, ℤ, pos, ◌≡◌, ◌≤◌, ◌*◌, ◌^◌, ◌≤ℤ◌, ◌&&◌, nat_le, nat_lt, List}
use Rattle.px_num.proofs.Basics.{ap, sym, ◌∙◌, arith, map, fold, int_max, int_min, list_all}
use Rattle.px_prune.proofs.Words.{all_max, all_min, cell_is_first, cell_is_least, cell_of, cells_end}
use Rattle.px_prune.proofs.Words.{depths, le_z, lt_of_ints, lt_z}

pub far_cell : (far f : ℕ) (m : ℤ) → m ≤ℤ pos (far * 2 ^ f) → cell_of (depths far f) m ≤ far
far_cell far f m h = cells_end (depths far f) m h

-- the cells at or behind all fronts are those from the cell of the greatest one on
pub cells_behind : {X : Type 0} (v : X → ℤ) (xs : List X) (m : ℤ) (far f : ℕ) → m ≡ fold int_max (pos 0) (map v xs)
    → (z : ℕ) → list_all (λ x. le_z (v x) (pos (z * 2 ^ f))) xs ≡ nat_le (cell_of (depths far f) m) z
cells_behind v xs m far f is z = grind (arith, cell_is_first, all_max)

-- and those before all backs are those before the cell of the least one
pub cells_before : {X : Type 0} (v : X → ℤ) (xs : List X) (m : ℤ) (far f : ℕ) → m ≡ fold int_min (pos (far * 2 ^ f))
    (map v xs) → (z : ℕ)
    → (nat_lt (z * 2 ^ f) (far * 2 ^ f) && list_all (λ x. lt_z (pos (z * 2 ^ f)) (v x)) xs)
    ≡ nat_lt z (cell_of (depths far f) m)
cells_before v xs m far f is z =
    ap (λ b. b && list_all (λ x. lt_z (pos (z * 2 ^ f)) (v x)) xs) (lt_of_ints (z * 2 ^ f) (far * 2 ^ f))
    ∙ sym (cell_is_least (depths far f) m z ∙ ap (λ k. lt_z (pos (z * 2 ^ f)) k) is
    ∙ all_min v xs (pos (far * 2 ^ f)) (pos (z * 2 ^ f)))

-- Without a fraction a cell is its value: it is inside where that is, and the faces at it are those whose value it is.
-- Clauses of public calls stand on it.
use Rattle.std.specs.Prelude.{◌≡◌, ℕ, pos, ◌==◌, true, [], ◌∷◌, ◌++◌, if◌then◌else◌}
use Rattle.px_model.specs.Scenes.{SolidView}
use Rattle.px_model.specs.Cells.{backs_at, depths, faces_at, fronts_at, is_inside, is_inside_at, is_inside_before}

abbrev pub WholeInside : Type 0
WholeInside = (s : SolidView) (far x y z : ℕ) → is_inside s (depths far 0) x y z ≡ is_inside_at s far x y z

abbrev pub WholeFronts : Type 0
WholeFronts = (s : SolidView) (far x y z : ℕ) → is_inside s (depths far 0) x y z ≡ true
    → fronts_at s (depths far 0) x y z ≡ (if z == 0 then s.near_number ∷ [] else []) ++ faces_at s.fronts x y (pos z)

abbrev pub WholeBacks : Type 0
WholeBacks = (s : SolidView) (far x y z : ℕ)
    → backs_at s (depths far 0) x y z
    ≡ (if is_inside_before s (depths far 0) x y z then faces_at s.backs x y (pos z) else [])

-- The faces of a solid by their index: the near face, its fronts, its backs, and last the far limit. Clauses of
-- public calls stand on it.
use Rattle.std.specs.Prelude.{ℕ, pos, ◌+◌, Bool, List, [], ◌∷◌, ◌++◌, length, map, get_or, nat_lt}
use Rattle.px_num.specs.declared.linear.Linear.{Linear}
use Rattle.px_model.specs.declared.solid.Face.{Face}
use Rattle.px_model.specs.Scenes.{SolidView}

-- the plane that has one value at every pixel
abbrev pub level : ℕ → Linear
level depth = record { a = pos 0; b = pos 0; c = pos depth }

abbrev pub planes_in_faces : List Face → List Linear
planes_in_faces faces = map (λ f. f.plane) faces

abbrev pub numbers_in_faces : List Face → List ℕ
numbers_in_faces faces = map (λ f. f.number) faces

-- the near face before the fronts
abbrev pub front_planes : List Face → List Linear
front_planes fronts = level 0 ∷ planes_in_faces fronts

-- the far limit behind the backs
abbrev pub back_planes : List Face → (end : ℕ) → List Linear
back_planes backs end = planes_in_faces backs ++ level end ∷ []

abbrev pub face_count : SolidView → ℕ
face_count s = length s.fronts + length s.backs + 2

abbrev pub is_front_face : SolidView → (face : ℕ) → Bool
is_front_face s face = nat_lt face (length s.fronts + 1)

abbrev pub face_plane : SolidView → (end face : ℕ) → Linear
face_plane s end face = get_or (front_planes s.fronts ++ back_planes s.backs end) face (level 0)

-- the far limit has no number, and answers 0
abbrev pub face_number : SolidView → (face : ℕ) → ℕ
face_number s face =
    get_or ((s.near_number ∷ numbers_in_faces s.fronts) ++ (numbers_in_faces s.backs ++ 0 ∷ [])) face 0

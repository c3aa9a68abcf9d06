-- The edges of a face: the forms that are at least 0 where the face bounds its solid. Clauses of public calls
-- stand on it.
use Rattle.std.specs.Prelude.{ℕ, pos, ◌+◌, ◌-◌, Bool, List, ◌++◌, length, map, take, drop, get_or, if◌then◌else◌}
use Rattle.std.specs.List.{list_all}
use lib.Signed.{le_z}
use Rattle.px_num.specs.declared.linear.Linear.{Linear}
use Rattle.px_num.specs.Forms.{less_one, minus, value_at}
use Rattle.px_model.specs.Scenes.{SolidView}
use Rattle.px_face.specs.Faces.{back_planes, front_planes, is_front_face, level}

-- the form that is at least 0 where the first plane is at least the second
abbrev pub at_least : Linear → Linear → Linear
at_least p q = minus p q

-- the form that is at least 0 where the first plane is above the second
abbrev pub above : Linear → Linear → Linear
above p q = less_one (minus p q)

-- a plane above each of these
abbrev pub over : Linear → List Linear → List Linear
over p planes = map (λ q. above p q) planes

-- a plane below each of these
abbrev pub under : Linear → List Linear → List Linear
under p planes = map (λ q. above q p) planes

-- a plane above those of these before place i, and at least those after it
abbrev pub leads : Linear → List Linear → (i : ℕ) → List Linear
leads p planes i = over p (take i planes) ++ map (λ q. at_least p q) (drop (i + 1) planes)

-- a plane below those of these before place i, and at most those after it
abbrev pub trails : Linear → List Linear → (i : ℕ) → List Linear
trails p planes i = under p (take i planes) ++ map (λ q. at_least q p) (drop (i + 1) planes)

-- the sides hold, and the front leads the fronts and is below every back
abbrev pub front_edges : SolidView → (end i : ℕ) → List Linear
front_edges s end i =
    let p = get_or (front_planes s.fronts) i (level 0)
    in s.sides ++ leads p (front_planes s.fronts) i ++ under p (back_planes s.backs end)

-- the sides hold, and the back trails the backs and is above every front
abbrev pub back_edges : SolidView → (end i : ℕ) → List Linear
back_edges s end i =
    let p = get_or (back_planes s.backs end) i (level 0)
    in s.sides ++ trails p (back_planes s.backs end) i ++ over p (front_planes s.fronts)

-- a face is compared with each side, and with each of the other faces
abbrev pub edge_count : SolidView → ℕ
edge_count s = length s.sides + length s.fronts + length s.backs + 1

abbrev pub edges : SolidView → (end face : ℕ) → List Linear
edges s end face =
    if is_front_face s face then front_edges s end face
    else back_edges s end (face - (length s.fronts + 1))

-- every form is at least 0 at the pixel
abbrev pub hold_at : List Linear → (x y : ℕ) → Bool
hold_at forms x y = list_all (λ p. le_z (pos 0) (value_at p x y)) forms

-- a face covers the pixel
abbrev pub covers : SolidView → (end face : ℕ) → (x y : ℕ) → Bool
covers s end face x y = hold_at (edges s end face) x y

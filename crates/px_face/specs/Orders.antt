-- The edges of a face but for the sides: how its plane is ordered among the others. Only proofs and private
-- functions stand on it.
use Rattle.std.specs.Prelude.{ℕ, List, ◌++◌, get_or}
use Rattle.px_num.specs.declared.linear.Linear.{Linear}
use Rattle.px_model.specs.Scenes.{SolidView}
use Rattle.px_face.specs.Faces.{back_planes, front_planes, level}
use Rattle.px_face.specs.Edges.{leads, over, trails, under}

-- the edges of a front, or of a back, but for the sides
abbrev pub front_orders : SolidView → (end i : ℕ) → List Linear
front_orders s end i =
    let p = get_or (front_planes s.fronts) i (level 0)
    in leads p (front_planes s.fronts) i ++ under p (back_planes s.backs end)

abbrev pub back_orders : SolidView → (end i : ℕ) → List Linear
back_orders s end i =
    let p = get_or (back_planes s.backs end) i (level 0)
    in trails p (back_planes s.backs end) i ++ over p (front_planes s.fronts)

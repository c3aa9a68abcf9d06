-- The planes of solids in their order, and the first of them whose constant is past the limit. Clauses of
-- public calls stand on it.
use Rattle.std.specs.Prelude.{ℕ, ℤ, ◌+◌, ◌==◌, nat_lt, Bool, List, ◌++◌, length, map, filter, find, Option}
use Rattle.std.specs.Int.RustNames.{unsigned_abs}
use Rattle.std.specs.List.{flat_map, range_with_len}
use Rattle.std.specs.Option.{option_map}
use Rattle.px_num.specs.declared.linear.Linear.{Linear}
use Rattle.px_model.specs.declared.limits.TheConstants.{MAX_CONSTANT}
use Rattle.px_model.specs.declared.solid.Face.{Face}
use Rattle.px_model.specs.Scenes.{SolidView}

-- those of the faces of a number
abbrev pub planes_among : List Face → (number : ℕ) → List Linear
planes_among faces number = map (λ face. face.plane) (filter (λ face. face.number == number) faces)

abbrev pub planes_numbered : SolidView → (number : ℕ) → List Linear
planes_numbered s number = planes_among s.fronts number ++ planes_among s.backs number

-- those of the fronts and backs by face number
abbrev pub face_planes : SolidView → List Linear
face_planes s = flat_map (planes_numbered s) (range_with_len (s.near_number + 1) (length s.fronts + length s.backs))

-- and then the sides
abbrev pub planes_in : SolidView → List Linear
planes_in s = face_planes s ++ s.sides

-- solid by solid
abbrev pub planes_of : List SolidView → List Linear
planes_of solids = flat_map planes_in solids

-- its constant is past the limit
abbrev pub is_past : Linear → Bool
is_past plane = nat_lt MAX_CONSTANT (unsigned_abs plane.c)

-- the constant of the first plane that has one past the limit
abbrev pub first_past : List SolidView → Option ℤ
first_past solids = option_map (λ plane. plane.c) (find is_past (planes_of solids))

-- The limits of a line's numbers, in the order in which they are asked. Clauses of public calls stand on it.
use Rattle.std.specs.Prelude.{ℕ, ◌-◌, ◌^◌, ℤ, pos, ◌+ℤ◌, List, [], ◌∷◌, ◌||◌, not, if◌then◌else◌, Option, Some, None}
use lib.Signed.{le_z}
use Rattle.std.specs.Option.{option_or}
use Rattle.px_scene.specs.Lines.{size_of}
use Rattle.px_show.specs.Judged.{past, size_past}
use Rattle.px_listing.specs.Kinds.{shape_of}
use Rattle.px_listing.specs.declared.kind.Shape.{Shape}
use Rattle.px_listing.specs.declared.kind.Shape.TheVariants as s
use Rattle.px_listing.specs.Lines.{ListForm, grid, operation}
use Rattle.px_show.specs.declared.fault.LineFault.{LineFault}
use Rattle.px_show.specs.declared.fault.LineFault.TheVariants as f
use Rattle.px_listing.specs.declared.limit.ListKind.{ListKind}
use Rattle.px_listing.specs.declared.limit.ListKind.TheVariants as kind

abbrev pub grid_past : (nx ny : ℤ) → Option (LineFault ListKind)
grid_past nx ny = option_or (past kind.Grid (pos 1) (pos 9) nx) (past kind.Grid (pos 1) (pos 9) ny)

-- the first coefficient past its limit
abbrev pub form_past : (a b c : ℤ) → Option (LineFault ListKind)
form_past a b c =
    option_or
    (option_or (size_past kind.Coefficient (2 ^ 27) a) (size_past kind.Coefficient (2 ^ 27) b))
    (size_past kind.Coefficient (2 ^ 38) c)

-- a place that is negative, or, with so many bits from it on, past the memory: then its end is found
abbrev pub end_past : (bits : ℕ) → (at len : ℤ) → Option (LineFault ListKind)
end_past bits at len =
    if not (le_z (pos 0) at) then Some (f.Limit kind.Place at)
    else if le_z (at +ℤ len) (pos bits) then None
    else Some (f.Limit kind.Place (at +ℤ len))

-- the length of a field, and then its place
abbrev pub field_past : (bits : ℕ) → (at len : ℤ) → Option (LineFault ListKind)
field_past bits at len = option_or (past kind.Length (pos 1) (pos 40) len) (end_past bits at len)

-- a constant that has more bits than its field
abbrev pub value_past : (len number : ℤ) → Option (LineFault ListKind)
value_past len number = past kind.Value (pos 0) (pos (2 ^ size_of len - 1)) number

-- two fields of one length
abbrev pub fields_past : (bits : ℕ) → (at len to : ℤ) → Option (LineFault ListKind)
fields_past bits at len to = option_or (field_past bits at len) (end_past bits to len)

-- two fields that share a bit: the place of the second is found
abbrev pub overlap : (at len to : ℤ) → Option (LineFault ListKind)
overlap at len to =
    if le_z (at +ℤ len) to || le_z (to +ℤ len) at then None else Some (f.Limit kind.Overlap to)

-- the first limit that the numbers of an operation pass
abbrev pub shape_past : (bits : ℕ) → Shape → List ℤ → Option (LineFault ListKind)
shape_past bits s.Form (a ∷ b ∷ c ∷ []) = form_past a b c
shape_past bits s.Place (at ∷ []) = end_past bits at (pos 1)
shape_past bits s.Bit (at ∷ v ∷ []) = option_or (end_past bits at (pos 1)) (past kind.Value (pos 0) (pos 1) v)
shape_past bits s.FormAndField (a ∷ b ∷ c ∷ at ∷ len ∷ []) = option_or (form_past a b c) (field_past bits at len)
shape_past bits s.Constant (at ∷ len ∷ number ∷ []) = option_or (field_past bits at len) (value_past len number)
shape_past bits s.FieldsApart (at ∷ len ∷ to ∷ []) = option_or (fields_past bits at len to) (overlap at len to)
shape_past bits s.Fields (at ∷ len ∷ to ∷ []) = fields_past bits at len to
shape_past bits shape zs = None

-- the first limit that a line of good form passes, in pixels of so many memory bits
abbrev pub listing_limit_of : (bits : ℕ) → ListForm → Option (LineFault ListKind)
listing_limit_of bits (grid nx ny) = grid_past nx ny
listing_limit_of bits (operation kind numbers) = shape_past bits (shape_of kind) numbers
listing_limit_of bits form = None

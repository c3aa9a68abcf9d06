-- The operations by their lines: the word of each, its numbers, and what they write. Clauses of public calls
-- stand on it.
use Rattle.std.specs.Prelude.{ℕ, ℤ, pos, Bool, List, [], ◌∷◌, Option, Some, None, codes, if◌then◌else◌}
use Rattle.std.specs.Str.{bytes_eq}
use lib.Signed.{le_z}
use Rattle.px_macro.specs.declared.field.Field.{Field}
use Rattle.px_macro.specs.declared.operation.Macro.{Macro}
use Rattle.px_macro.specs.declared.operation.Macro.TheVariants as m
use Rattle.px_scene.specs.Lines.{plane_of, size_of}
use Rattle.px_listing.specs.declared.kind.Kind.{Kind}
use Rattle.px_listing.specs.declared.kind.Kind.TheVariants as k
use Rattle.px_listing.specs.declared.kind.Shape.{Shape}
use Rattle.px_listing.specs.declared.kind.Shape.TheVariants as s

-- the word that its line begins with
abbrev pub word_of : Kind → List ℕ
word_of k.All = codes "all"
word_of k.KeepSign = codes "keep-sign"
word_of k.KeepBit = codes "keep-bit"
word_of k.LoadLinear = codes "load-linear"
word_of k.KeepAtMost = codes "keep-at-most"
word_of k.AddLinear = codes "add-linear"
word_of k.LoadConst = codes "load-const"
word_of k.SetBit = codes "set-bit"
word_of k.Toggle = codes "toggle"
word_of k.Copy = codes "copy"
word_of k.KeepLess = codes "keep-less"

-- what its numbers write
abbrev pub shape_of : Kind → Shape
shape_of k.All = s.Nothing
shape_of k.KeepSign = s.Form
shape_of k.KeepBit = s.Bit
shape_of k.LoadLinear = s.FormAndField
shape_of k.KeepAtMost = s.FormAndField
shape_of k.AddLinear = s.FormAndField
shape_of k.LoadConst = s.Constant
shape_of k.SetBit = s.Bit
shape_of k.Toggle = s.Place
shape_of k.Copy = s.FieldsApart
shape_of k.KeepLess = s.Fields

-- which one an operation is
abbrev pub kind_of : Macro → Kind
kind_of m.All = k.All
kind_of (m.KeepSign form) = k.KeepSign
kind_of (m.KeepBit at v) = k.KeepBit
kind_of (m.LoadLinear form f) = k.LoadLinear
kind_of (m.KeepAtMost form f) = k.KeepAtMost
kind_of (m.AddLinear form f) = k.AddLinear
kind_of (m.LoadConst f c) = k.LoadConst
kind_of (m.SetBit at v) = k.SetBit
kind_of (m.Toggle at) = k.Toggle
kind_of (m.Copy f g) = k.Copy
kind_of (m.KeepLess f g) = k.KeepLess

-- the kinds of operations in the order of docs/MACHINE.md, "Broadcast operations"
abbrev pub operation_kind : Macro → ℕ
operation_kind m.All = 1
operation_kind (m.KeepSign form) = 2
operation_kind (m.KeepBit at v) = 3
operation_kind (m.LoadLinear form f) = 4
operation_kind (m.KeepAtMost form f) = 5
operation_kind (m.AddLinear form f) = 6
operation_kind (m.LoadConst f c) = 7
operation_kind (m.SetBit at v) = 8
operation_kind (m.Toggle at) = 9
operation_kind (m.Copy f g) = 10
operation_kind (m.KeepLess f g) = 11

-- the one whose line begins with a word
abbrev pub kind_named : List ℕ → Option Kind
kind_named w =
    if bytes_eq w (word_of k.All) then Some k.All
    else if bytes_eq w (word_of k.KeepSign) then Some k.KeepSign
    else if bytes_eq w (word_of k.KeepBit) then Some k.KeepBit
    else if bytes_eq w (word_of k.LoadLinear) then Some k.LoadLinear
    else if bytes_eq w (word_of k.KeepAtMost) then Some k.KeepAtMost
    else if bytes_eq w (word_of k.AddLinear) then Some k.AddLinear
    else if bytes_eq w (word_of k.LoadConst) then Some k.LoadConst
    else if bytes_eq w (word_of k.SetBit) then Some k.SetBit
    else if bytes_eq w (word_of k.Toggle) then Some k.Toggle
    else if bytes_eq w (word_of k.Copy) then Some k.Copy
    else if bytes_eq w (word_of k.KeepLess) then Some k.KeepLess
    else None

-- how many numbers write it
abbrev pub number_count : Shape → ℕ
number_count s.Nothing = 0
number_count s.Form = 3
number_count s.Place = 1
number_count s.Bit = 2
number_count s.FormAndField = 5
number_count s.Constant = 3
number_count s.FieldsApart = 3
number_count s.Fields = 3

-- a bit as a number
abbrev pub bit_number : Bool → ℤ
bit_number v = if v then pos 1 else pos 0

-- coefficients, then the place and the length of a field; of a second field the place alone, since both have one length
abbrev pub operands_of : Macro → List ℤ
operands_of m.All = []
operands_of (m.KeepSign form) = form.a ∷ form.b ∷ form.c ∷ []
operands_of (m.KeepBit at v) = pos at ∷ bit_number v ∷ []
operands_of (m.LoadLinear form f) = form.a ∷ form.b ∷ form.c ∷ pos f.at ∷ pos f.len ∷ []
operands_of (m.KeepAtMost form f) = form.a ∷ form.b ∷ form.c ∷ pos f.at ∷ pos f.len ∷ []
operands_of (m.AddLinear form f) = form.a ∷ form.b ∷ form.c ∷ pos f.at ∷ pos f.len ∷ []
operands_of (m.LoadConst f c) = pos f.at ∷ pos f.len ∷ pos c ∷ []
operands_of (m.SetBit at v) = pos at ∷ bit_number v ∷ []
operands_of (m.Toggle at) = pos at ∷ []
operands_of (m.Copy f g) = pos f.at ∷ pos f.len ∷ pos g.at ∷ []
operands_of (m.KeepLess f g) = pos f.at ∷ pos f.len ∷ pos g.at ∷ []

-- the bit that a number writes
abbrev pub is_set : ℤ → Bool
is_set z = le_z (pos 1) z

-- the field that two numbers write
abbrev pub field_of : (at len : ℤ) → Field
field_of at len = record { at = size_of at; len = size_of len }

-- the operation that these numbers write
abbrev pub operation_with : Kind → List ℤ → Option Macro
operation_with k.All [] = Some m.All
operation_with k.KeepSign (a ∷ b ∷ c ∷ []) = Some (m.KeepSign (plane_of a b c))
operation_with k.KeepBit (at ∷ v ∷ []) = Some (m.KeepBit (size_of at) (is_set v))
operation_with k.LoadLinear (a ∷ b ∷ c ∷ at ∷ len ∷ []) = Some (m.LoadLinear (plane_of a b c) (field_of at len))
operation_with k.KeepAtMost (a ∷ b ∷ c ∷ at ∷ len ∷ []) = Some (m.KeepAtMost (plane_of a b c) (field_of at len))
operation_with k.AddLinear (a ∷ b ∷ c ∷ at ∷ len ∷ []) = Some (m.AddLinear (plane_of a b c) (field_of at len))
operation_with k.LoadConst (at ∷ len ∷ number ∷ []) = Some (m.LoadConst (field_of at len) (size_of number))
operation_with k.SetBit (at ∷ v ∷ []) = Some (m.SetBit (size_of at) (is_set v))
operation_with k.Toggle (at ∷ []) = Some (m.Toggle (size_of at))
operation_with k.Copy (at ∷ len ∷ to ∷ []) = Some (m.Copy (field_of at len) (field_of to len))
operation_with k.KeepLess (at ∷ len ∷ to ∷ []) = Some (m.KeepLess (field_of at len) (field_of to len))
operation_with kind zs = None

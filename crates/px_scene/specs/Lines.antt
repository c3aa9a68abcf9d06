-- One line of a scene text: what it says, which lines are expected, and why a line is bad.
-- Clauses of public calls stand on it.
use Rattle.std.specs.Prelude.{ℕ, ℤ, pos, List, [], ◌∷◌, Option, Some, None, Result, Ok, Err, ◌+◌, ◌-◌, min}
use Rattle.std.specs.Prelude.{Bool, true, false, if◌then◌else◌, codes}
use lib.IntN.{negsuc}
use Rattle.px_num.specs.declared.linear.Linear.{Linear}
use Rattle.std.specs.Option.{ok_or, option_map, option_map_or, option_or}
use Rattle.std.specs.Str.{bytes_eq}
use Rattle.px_model.specs.declared.limits.TheConstants.{MAX_CONSTANT, MAX_DEPTH_BITS, MAX_FACES, MAX_FRACTION_BITS}
use Rattle.px_model.specs.declared.limits.TheConstants.{MAX_PICTURE_SIZE, MAX_PLANES_OF_A_KIND, MAX_SLOPE, MAX_SOLIDS}
use Rattle.px_text.specs.Text.{Words, number_of, is_name}
use Rattle.px_show.specs.Expressions.{is_among, show_fault}
use Rattle.px_show.specs.Judged.{past, size_past}
use Rattle.px_show.specs.Versions.{version_of}
use Rattle.px_show.specs.declared.scene_version.Version.{Version}
use Rattle.px_show.specs.declared.scene_version.Version.TheVariants as v
use Rattle.px_scene.specs.declared.line.Keyword.{Keyword}
use Rattle.px_scene.specs.declared.line.Due.{Due}
use Rattle.px_scene.specs.declared.line.Tally.{Tally}
use Rattle.px_scene.specs.declared.line.Paint.{Paint}
use Rattle.px_scene.specs.declared.line.Plane.{Plane}
use Rattle.px_show.specs.declared.fault.Cause.{Cause}
use Rattle.px_show.specs.declared.fault.LimitKind.{LimitKind}
use Rattle.px_show.specs.declared.fault.LineFault.{LineFault}
use Rattle.px_show.specs.declared.fault.LineFault.TheVariants as f
use Rattle.px_scene.specs.declared.line.Keyword.TheVariants as k
use Rattle.px_scene.specs.declared.line.Due.TheVariants as d
use Rattle.px_show.specs.declared.fault.Cause.TheVariants as c
use Rattle.px_show.specs.declared.fault.LimitKind.TheVariants as kind

-- a line of good form, by what it says: its numbers are within no limit yet
pub data Form : Type 0 where
  header : Version → Form
  picture : (width height : ℤ) → Form
  depth : (bits : ℤ) → (fraction : Option ℤ) → Form
  solid : (name : List ℕ) → Paint → Form
  front : Plane → Form
  back : Plane → Form
  side : Linear → Form
  show : (expression : Words) → Form
  end : Form

-- a number that is not negative
abbrev pub size_of : ℤ → ℕ
size_of (pos n) = n
size_of (negsuc n) = 0

-- a plane by its three coefficients
abbrev pub plane_of : ℤ → ℤ → ℤ → Linear
plane_of a b c = record { a = a; b = b; c = c }

-- the numbers that all of two or three words write
abbrev pub two_of : {A : Type 0} → (ℤ → ℤ → A) → Option ℤ → Option ℤ → Option A
two_of make (Some a) (Some b) = Some (make a b)
two_of make x y = None

abbrev pub three_of : {A : Type 0} → (ℤ → ℤ → ℤ → A) → Option ℤ → Option ℤ → Option ℤ → Option A
three_of make (Some a) (Some b) (Some c) = Some (make a b c)
three_of make x y z = None

abbrev pub linear_in : (x y z : List ℕ) → Option Linear
linear_in x y z = three_of plane_of (number_of x) (number_of y) (number_of z)

abbrev pub paint_of : ℤ → ℤ → ℤ → Paint
paint_of red green blue = record { red = red; green = green; blue = blue }

abbrev pub paint_in : (red green blue : List ℕ) → Option Paint
paint_in red green blue = three_of paint_of (number_of red) (number_of green) (number_of blue)

-- a plane in its solid's colour, and one in a colour of its own
abbrev pub uncoloured : Linear → Plane
uncoloured form = record { form = form; paint = None }

abbrev pub coloured : Option Linear → Option Paint → Option Plane
coloured (Some form) (Some paint) = Some (record { form = form; paint = Some paint })
coloured form paint = None

-- what the words of a line after its first say, or why they are of no good form
abbrev pub header_form : Words → Result Form Cause
header_form ws = ok_or (option_map header (version_of ws)) c.NotHeader

abbrev pub picture_form : Words → Result Form Cause
picture_form (width ∷ height ∷ []) = ok_or (two_of picture (number_of width) (number_of height)) c.NotNumber
picture_form ws = Err c.WordCount

abbrev pub depth_form : Version → Words → Result Form Cause
depth_form v.Three (bits ∷ fraction ∷ []) =
    ok_or (two_of (λ w f. depth w (Some f)) (number_of bits) (number_of fraction)) c.NotNumber
depth_form v.One (bits ∷ []) = ok_or (option_map (λ w. depth w None) (number_of bits)) c.NotNumber
depth_form v.Two (bits ∷ []) = ok_or (option_map (λ w. depth w None) (number_of bits)) c.NotNumber
depth_form version ws = Err c.WordCount

abbrev pub solid_form : Words → Result Form Cause
solid_form (name ∷ red ∷ green ∷ blue ∷ []) =
    if is_name name then ok_or (option_map (solid name) (paint_in red green blue)) c.NotNumber else Err c.BadName
solid_form ws = Err c.WordCount

abbrev pub plane_in : Words → Result Plane Cause
plane_in (x ∷ y ∷ z ∷ []) = ok_or (option_map uncoloured (linear_in x y z)) c.NotNumber
plane_in (x ∷ y ∷ z ∷ red ∷ green ∷ blue ∷ []) =
    ok_or (coloured (linear_in x y z) (paint_in red green blue)) c.NotNumber
plane_in ws = Err c.WordCount

abbrev pub plane_form : (Plane → Form) → Result Plane Cause → Result Form Cause
plane_form of_plane (Ok plane) = Ok (of_plane plane)
plane_form of_plane (Err cause) = Err cause

abbrev pub side_form : Words → Result Form Cause
side_form (x ∷ y ∷ z ∷ []) = ok_or (option_map side (linear_in x y z)) c.NotNumber
side_form ws = Err c.WordCount

abbrev pub end_form : Words → Result Form Cause
end_form [] = Ok end
end_form ws = Err c.WordCount

-- what the first word of a line begins
abbrev pub keyword_of : List ℕ → Keyword
keyword_of w =
    if bytes_eq w (codes "pxscene") then k.Pxscene
    else if bytes_eq w (codes "picture") then k.Picture
    else if bytes_eq w (codes "depth") then k.Depth
    else if bytes_eq w (codes "solid") then k.Solid
    else if bytes_eq w (codes "front") then k.Front
    else if bytes_eq w (codes "back") then k.Back
    else if bytes_eq w (codes "side") then k.Side
    else if bytes_eq w (codes "show") then k.Show
    else if bytes_eq w (codes "end") then k.End
    else k.Other

-- what is expected after a line
abbrev pub due_after : Form → Due
due_after (header version) = d.Picture
due_after (picture width height) = d.Depth
due_after (depth bits fraction) = d.Solid
due_after (solid name paint) = d.Plane
due_after (front plane) = d.Plane
due_after (back plane) = d.Plane
due_after (side form) = d.Plane
due_after (show expression) = d.End
due_after end = d.Nothing

-- the lines that are expected
abbrev pub is_due : Due → Keyword → Bool
is_due d.Header k.Pxscene = true
is_due d.Picture k.Picture = true
is_due d.Depth k.Depth = true
is_due d.Solid k.Solid = true
is_due d.Solid k.Show = true
is_due d.Plane k.Front = true
is_due d.Plane k.Back = true
is_due d.Plane k.Side = true
is_due d.Plane k.Solid = true
is_due d.Plane k.Show = true
is_due d.End k.End = true
is_due w v = false

-- what the words after a first word say, whatever is expected
abbrev pub form_of : Version → Keyword → Words → Result Form Cause
form_of version k.Pxscene ws = header_form ws
form_of version k.Picture ws = picture_form ws
form_of version k.Depth ws = depth_form version ws
form_of version k.Solid ws = solid_form ws
form_of version k.Front ws = plane_form front (plane_in ws)
form_of version k.Back ws = plane_form back (plane_in ws)
form_of version k.Side ws = side_form ws
form_of version k.Show ws = Ok (show ws)
form_of version k.End ws = end_form ws
form_of version k.Other ws = Err c.Unexpected

-- why a line is not due
abbrev pub not_due : Due → Cause
not_due d.Header = c.NotHeader
not_due d.Nothing = c.AfterEnd
not_due due = c.Unexpected

-- what a line says, by what is expected, its first word and those after
abbrev pub line_form : Version → Due → Keyword → Words → Result Form Cause
line_form version due keyword ws = if is_due due keyword then form_of version keyword ws else Err (not_due due)

-- a count past its limit
abbrev pub most : LimitKind → ℕ → ℕ → Option (LineFault LimitKind)
most limit high found = past limit (pos 0) (pos high) (pos found)

-- the first side of a picture past its limit
abbrev pub picture_past : ℤ → ℤ → Option (LineFault LimitKind)
picture_past width height =
    option_or
    (past kind.Picture (pos 1) (pos MAX_PICTURE_SIZE) width)
    (past kind.Picture (pos 1) (pos MAX_PICTURE_SIZE) height)

-- the first part of a colour past its limit
abbrev pub colour_past : Paint → Option (LineFault LimitKind)
colour_past p =
    option_or
    (option_or (past kind.Colour (pos 0) (pos 255) p.red) (past kind.Colour (pos 0) (pos 255) p.green))
    (past kind.Colour (pos 0) (pos 255) p.blue)

-- the first coefficient of a plane past its limit
abbrev pub plane_past : Linear → Option (LineFault LimitKind)
plane_past p =
    option_or
    (option_or (size_past kind.Coefficient MAX_SLOPE p.a) (size_past kind.Coefficient MAX_SLOPE p.b))
    (size_past kind.Coefficient MAX_CONSTANT p.c)

-- the first number of a face's line past its limit: its plane's, and then its colour's
abbrev pub face_past : Plane → Option (LineFault LimitKind)
face_past p = option_or (plane_past p.form) (option_map_or colour_past p.paint None)

-- fraction bits past their limit, or past what the bits of a depth leave of the limit of both
abbrev pub fraction_past : ℤ → ℤ → Option (LineFault LimitKind)
fraction_past bits fraction =
    past kind.Fraction (pos 0) (pos (min MAX_FRACTION_BITS (MAX_DEPTH_BITS - size_of bits))) fraction

-- the first number of a depth's line past its limit
abbrev pub depth_past : (bits : ℤ) → Option ℤ → Option (LineFault LimitKind)
depth_past bits fraction =
    option_or (past kind.Depth (pos 1) (pos MAX_DEPTH_BITS) bits) (option_map_or (fraction_past bits) fraction None)

-- a face's line: its numbers, the faces of its kind, and the face numbers, with this line
abbrev pub face_limit : LimitKind → ℕ → ℕ → Plane → Option (LineFault LimitKind)
face_limit limit faces numbered p =
    option_or
    (option_or (face_past p) (most limit MAX_PLANES_OF_A_KIND (faces + 1)))
    (most kind.Faces MAX_FACES (numbered + 1))

-- the first limit that a line of good form passes: its numbers from left to right, and then the counts with this line
abbrev pub limit_of : Tally → Form → Option (LineFault LimitKind)
limit_of t (picture width height) = picture_past width height
limit_of t (depth bits fraction) = depth_past bits fraction
limit_of t (solid name paint) =
    option_or
    (option_or (colour_past paint) (most kind.Solids MAX_SOLIDS (t.solids + 1)))
    (most kind.Faces MAX_FACES (t.numbered + 1))
limit_of t (front plane) = face_limit kind.Fronts t.fronts t.numbered plane
limit_of t (back plane) = face_limit kind.Backs t.backs t.numbered plane
limit_of t (side form) = option_or (plane_past form) (most kind.Sides MAX_PLANES_OF_A_KIND (t.sides + 1))
limit_of t other = None

-- why a line of good form is bad: a name that stands already, its expression, or a limit that it passes
abbrev pub fault_of : Version → (names : Words) → Tally → Form → Option (LineFault LimitKind)
fault_of version names t (show expression) = show_fault version names expression
fault_of version names t (solid name paint) =
    if is_among names name then Some (f.Malformed c.SecondName) else limit_of t (solid name paint)
fault_of version names t other = limit_of t other

-- What the lines of a scene text have said so far, line by line. Clauses of public calls stand on it.
use Rattle.std.specs.Prelude.{ℕ, ◌+◌, ◌-◌, List, [], ◌∷◌, ◌++◌, Option, Some, None}
use Rattle.std.specs.Prelude.{Result, Ok, Err, fold, length, slice_get, unwrap_or}
use Rattle.std.specs.Option.{option_map_or}
use Rattle.px_num.specs.declared.linear.Linear.{Linear}
use Rattle.px_model.specs.declared.solid.Colour.{Colour}
use Rattle.px_model.specs.declared.solid.Face.{Face}
use Rattle.px_scene.specs.declared.line.Due.{Due}
use Rattle.px_scene.specs.declared.line.Due.TheVariants as d
use Rattle.px_scene.specs.declared.line.Tally.{Tally}
use Rattle.px_scene.specs.declared.line.Paint.{Paint}
use Rattle.px_scene.specs.declared.line.Plane.{Plane}
use Rattle.px_show.specs.declared.fault.Cause.{Cause}
use Rattle.px_show.specs.declared.fault.LimitKind.{LimitKind}
use Rattle.px_show.specs.declared.fault.LineFault.{LineFault}
use Rattle.px_show.specs.declared.fault.LineFault.TheVariants as f
use Rattle.px_text.specs.Text.{Words}
use Rattle.px_expr.specs.Tree.{Tree, leaf}
use Rattle.px_show.specs.Expressions.{show_tree}
use Rattle.px_show.specs.declared.scene_version.Version.{Version}
use Rattle.px_show.specs.declared.scene_version.Version.TheVariants as v
use Rattle.px_model.specs.Scenes.{SolidView, names_of, SceneView}
use Rattle.px_scene.specs.Lines.{Form, header, picture, depth, solid, front, back, side, show, end}
use Rattle.px_scene.specs.Lines.{size_of, keyword_of, due_after, line_form, fault_of}

-- what lines have said: the version, what is expected, how many faces have numbers, and the parts of the scene
pub record DraftView : Type 0 where
  pub version : Version
  pub due : Due
  pub numbered : ℕ
  pub width : ℕ
  pub height : ℕ
  pub depth_bits : ℕ
  pub fraction_bits : ℕ
  pub solids : List SolidView
  pub show : Option Tree

-- what stands before the first line
abbrev pub blank : DraftView
blank = record {
  version = v.One;
  due = d.Header;
  numbered = 0;
  width = 1;
  height = 1;
  depth_bits = 1;
  fraction_bits = 0;
  solids = [];
  show = None;
}

-- the colour of three numbers
abbrev pub colour_of : Paint → Colour
colour_of p = record { red = size_of p.red; green = size_of p.green; blue = size_of p.blue }

-- the face of a line, which has its solid's colour where it has none of its own
abbrev pub face_of : Colour → (number : ℕ) → Plane → Face
face_of colour number p = record { number = number; plane = p.form; colour = option_map_or colour_of p.paint colour }

-- a solid with one plane more
abbrev pub with_front : (number : ℕ) → Plane → SolidView → SolidView
with_front number p s = record s { fronts = s.fronts ++ face_of s.colour number p ∷ [] }

abbrev pub with_back : (number : ℕ) → Plane → SolidView → SolidView
with_back number p s = record s { backs = s.backs ++ face_of s.colour number p ∷ [] }

abbrev pub with_side : Linear → SolidView → SolidView
with_side form s = record s { sides = s.sides ++ form ∷ [] }

-- the last solid changed
abbrev pub with_last : (SolidView → SolidView) → List SolidView → List SolidView
with_last change [] = []
with_last change (s ∷ []) = change s ∷ []
with_last change (s ∷ t ∷ ss) = s ∷ with_last change (t ∷ ss)

-- how many the last solid has
abbrev pub in_last : (SolidView → ℕ) → List SolidView → ℕ
in_last count solids = option_map_or count (slice_get solids (length solids - 1)) 0

-- the counts over the lines so far
abbrev pub tally_of : DraftView → Tally
tally_of draft = record {
  solids = length draft.solids;
  numbered = draft.numbered;
  fronts = in_last (λ s. length s.fronts) draft.solids;
  backs = in_last (λ s. length s.backs) draft.solids;
  sides = in_last (λ s. length s.sides) draft.solids;
}

-- a solid without planes
abbrev pub fresh_solid : List ℕ → ℕ → Colour → SolidView
fresh_solid name number colour =
    record { name = name; colour = colour; near_number = number; fronts = []; backs = []; sides = [] }

-- what a good line adds
abbrev pub with_form : DraftView → Form → DraftView
with_form draft (header version) = record draft { version = version }
with_form draft (picture width height) = record draft { width = size_of width; height = size_of height }
with_form draft (depth bits fraction) =
    record draft { depth_bits = size_of bits; fraction_bits = option_map_or size_of fraction 0 }
with_form draft (solid name paint) = record draft {
  numbered = draft.numbered + 1;
  solids = draft.solids ++ fresh_solid name (draft.numbered + 1) (colour_of paint) ∷ [];
}
with_form draft (front plane) = record draft {
  numbered = draft.numbered + 1;
  solids = with_last (with_front (draft.numbered + 1) plane) draft.solids;
}
with_form draft (back plane) = record draft {
  numbered = draft.numbered + 1;
  solids = with_last (with_back (draft.numbered + 1) plane) draft.solids;
}
with_form draft (side form) = record draft { solids = with_last (with_side form) draft.solids }
with_form draft (show expression) =
    record draft { show = show_tree draft.version (names_of draft.solids) expression }
with_form draft end = draft

-- what the words of a line say, by what is expected
abbrev pub form_in : DraftView → List ℕ → Words → Result Form Cause
form_in draft w ws = line_form draft.version draft.due (keyword_of w) ws

-- why a line is bad, by what the lines before it have said
abbrev pub fault_by : DraftView → Result Form Cause → Option (LineFault LimitKind)
fault_by draft (Err cause) = Some (f.Malformed cause)
fault_by draft (Ok form) = fault_of draft.version (names_of draft.solids) (tally_of draft) form

abbrev pub fault_in : DraftView → Words → Option (LineFault LimitKind)
fault_in draft [] = None
fault_in draft (w ∷ ws) = fault_by draft (form_in draft w ws)

-- the draft after a line, which is as before after a bad one
abbrev pub taken_by : DraftView → Result Form Cause → DraftView
taken_by draft (Err cause) = draft
taken_by draft (Ok form) = record (with_form draft form) { due = due_after form }

abbrev pub taken : DraftView → Words → DraftView
taken draft [] = draft
taken draft (w ∷ ws) = taken_by draft (form_in draft w ws)

-- what lines say, one after another
abbrev pub draft_of : List Words → DraftView
draft_of lines = fold taken blank lines

-- the scene that a draft is of
abbrev pub drawn : DraftView → SceneView
drawn draft = record {
  width = draft.width;
  height = draft.height;
  depth_bits = draft.depth_bits;
  fraction_bits = draft.fraction_bits;
  solids = draft.solids;
  show = unwrap_or draft.show (leaf 0);
}

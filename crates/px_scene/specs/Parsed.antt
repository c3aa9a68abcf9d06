-- A statement as the form of its line. Only proofs and private functions stand on it.
use Rattle.std.specs.Prelude.{ℕ, List, [], Option, Some, None, Result, Ok, Err, if◌then◌else◌}
use Rattle.px_text.specs.Text.{Words}
use Rattle.px_text.specs.LentWords.{now_of}
use Rattle.px_model.specs.Scenes.{names_of}
use Rattle.px_show.specs.Expressions.{is_among, show_fault}
use Rattle.px_show.specs.declared.fault.Cause.{Cause}
use Rattle.px_show.specs.declared.fault.Cause.TheVariants as c
use Rattle.px_show.specs.declared.fault.LimitKind.{LimitKind}
use Rattle.px_show.specs.declared.fault.LineFault.{LineFault}
use Rattle.px_show.specs.declared.fault.LineFault.TheVariants as f
use Rattle.px_scene.specs.declared.line.Keyword.{Keyword}
use Rattle.px_scene.specs.declared.line.Keyword.TheVariants as k
use Rattle.px_scene.specs.declared.parse.Statement.{Statement}
use Rattle.px_scene.specs.declared.parse.Statement.TheVariants as s
use Rattle.px_scene.specs.Drafts.{DraftView, tally_of}
use Rattle.px_scene.specs.Lines.{Form, header, picture, depth, solid, front, back, side, show, end, limit_of}

abbrev pub stated : Statement → Form
stated (s.Header version) = header version
stated (s.Picture width height) = picture width height
stated (s.Depth bits fraction) = depth bits fraction
stated (s.Solid name paint) = solid name.now paint
stated (s.Front plane) = front plane
stated (s.Back plane) = back plane
stated (s.Side form) = side form
stated (s.Show words) = show (now_of words.now)
stated s.End = end

abbrev pub as_form : Result Statement Cause → Result Form Cause
as_form (Ok statement) = Ok (stated statement)
as_form (Err cause) = Err cause

abbrev pub keyword_in : Statement → Keyword
keyword_in (s.Header version) = k.Pxscene
keyword_in (s.Picture width height) = k.Picture
keyword_in (s.Depth bits fraction) = k.Depth
keyword_in (s.Solid name paint) = k.Solid
keyword_in (s.Front plane) = k.Front
keyword_in (s.Back plane) = k.Back
keyword_in (s.Side form) = k.Side
keyword_in (s.Show words) = k.Show
keyword_in s.End = k.End

-- the name of a solid
abbrev pub name_in : Statement → List ℕ
name_in (s.Solid name paint) = name.now
name_in statement = []

-- a name that stands already
abbrev pub second_name : Words → Form → Option Cause
second_name names (solid name paint) = if is_among names name then Some c.SecondName else None
second_name names other = None

-- why its line is bad, but for its expression, and why its expression is
abbrev pub malformed_or : Option Cause → Option (LineFault LimitKind) → Option (LineFault LimitKind)
malformed_or (Some cause) later = Some (f.Malformed cause)
malformed_or None later = later

abbrev pub fault_left : DraftView → Form → Option (LineFault LimitKind)
fault_left draft form = malformed_or (second_name (names_of draft.solids) form) (limit_of (tally_of draft) form)

abbrev pub fault_shown : DraftView → Form → Option (LineFault LimitKind)
fault_shown draft (show expression) = show_fault draft.version (names_of draft.solids) expression
fault_shown draft other = None

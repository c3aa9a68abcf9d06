-- A scene text line by line: the first bad line, why a text is no scene, and the scene of a text that is one.
-- Each line is judged by what the lines before it have said. Clauses of public calls stand on it.
use Rattle.std.specs.Prelude.{ℕ, ◌+◌, List, [], length, Bool, true, false, if◌then◌else◌, Option, Some, pos, nat_lt}
use Rattle.px_model.specs.Scenes.{SceneView}
use Rattle.px_scene.specs.Drafts.{draft_of, drawn, fault_in}
use Rattle.px_scene.specs.declared.line.Due.{Due}
use Rattle.px_scene.specs.declared.line.Due.TheVariants as d
use Rattle.px_show.specs.declared.fault.LimitKind.TheVariants as kind
use Rattle.px_show.specs.declared.fault.LimitKind.{LimitKind}
use Rattle.px_show.specs.declared.fault.LineFault.{LineFault}
use Rattle.px_show.specs.declared.fault.TextFault.TheVariants as fault
use Rattle.px_show.specs.Judged.{SceneFault, first_bad, refused}
use Rattle.px_text.specs.Text.{Words, lines_of, worded}
use Rattle.px_text.specs.declared.text.TheConstants.{MAX_TEXT_BYTES}

-- why a line is bad behind others
abbrev pub fault_behind : List Words → Words → Option (LineFault LimitKind)
fault_behind before line = fault_in (draft_of before) line

-- the scene of a text without a bad line
abbrev pub scene_of : List Words → SceneView
scene_of lines = drawn (draft_of lines)

-- whether nothing more is expected, as after the end
abbrev pub is_nothing : Due → Bool
is_nothing d.Nothing = true
is_nothing due = false

-- the limit of the text, the first bad line, the missing end
abbrev pub refusal_of : List ℕ → Option SceneFault
refusal_of text =
    if nat_lt MAX_TEXT_BYTES (length text) then Some (fault.Limit 0 kind.Text (pos (MAX_TEXT_BYTES + 1)))
    else refused (first_bad fault_behind [] (worded text)) (is_nothing (draft_of (worded text)).due)
    (length (lines_of text))

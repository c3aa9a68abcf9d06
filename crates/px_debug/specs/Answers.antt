-- The answers of a session: each is a function of the state after so many broadcasts, of the program and of the line.
-- Clauses of public calls stand on it.
use Rattle.std.specs.Prelude.{ℕ, ◌-◌, List, [], ◌++◌, codes, decimal, if◌then◌else◌, nat_lt, take}
use Rattle.circular_buffer.specs.Buffer.{keep_last}
use Rattle.px_array.specs.Arrays.{State}
use Rattle.px_model.specs.Scenes.{SceneView}
use Rattle.px_sched.specs.Layouts.{layout_of}
use Rattle.px_control.specs.Program.{array_after, micro_at_clock, operation_at, program, total}
use Rattle.px_debug.specs.Lines.{field_line, is_node, is_pixel, now_line, pixel_line, trace_lines}
use Rattle.px_debug.specs.Lines.{tree_line, unknown_line}
use Rattle.px_debug.specs.declared.command.Command.{Command}
use Rattle.px_debug.specs.declared.command.Command.TheVariants as c

-- where the session stands: the operation and the micro of the next broadcast
abbrev pub place_line : SceneView → (now : ℕ) → List ℕ
place_line scene now =
    if nat_lt now (total scene)
    then codes "at " ++ decimal now ++ codes " of " ++ decimal (total scene) ++ codes " macro "
    ++ decimal (operation_at scene now)
    ++ codes " micro " ++ decimal (micro_at_clock scene now) ++ codes "\n"
    else codes "at " ++ decimal now ++ codes " of " ++ decimal (total scene) ++ codes " done\n"

-- the last 32 broadcasts before a clock, or all where there are fewer, oldest first
abbrev pub trace_text : SceneView → (now : ℕ) → List ℕ
trace_text scene now = trace_lines (now - 32) (keep_last 32 (take now (program scene)))

-- the answer to a command after its move, where the line has this number
unfoldable pub answer_in : SceneView → State → (now number : ℕ) → Command → List ℕ
answer_in scene s now number c.At = place_line scene now
answer_in scene s now number (c.Pixel x y) = if is_pixel s x y then pixel_line s x y else unknown_line number
answer_in scene s now number (c.Field x y) = if is_pixel s x y then field_line (layout_of scene) s x y
    else unknown_line number
answer_in scene s now number (c.Tree level index) = if is_node s level index then tree_line s level index
    else unknown_line number
answer_in scene s now number c.Trace = trace_text scene now
answer_in scene s now number c.Quit = []
answer_in scene s now number c.Nothing = []
answer_in scene s now number c.Unknown = unknown_line number
answer_in scene s now number other = now_line now

abbrev pub answer : (bits : ℕ) → SceneView → (now number : ℕ) → Command → List ℕ
answer bits scene now number command = answer_in scene (array_after bits scene now).state now number command

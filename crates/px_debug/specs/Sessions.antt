-- A session over lines, one after another. Clauses of public calls stand on it.
use Rattle.std.specs.Prelude.{ℕ, ◌+◌, List, [], ◌++◌, Bool, true, false, if◌then◌else◌}
use Rattle.std.specs.List.{fold}
use Rattle.px_io.specs.Reports.{SinkState}
use Rattle.px_model.specs.Scenes.{SceneView}
use Rattle.px_debug.specs.Answers.{answer}
use Rattle.px_debug.specs.Commands.{line_command}
use Rattle.px_debug.specs.Moves.{SessionView, going, most_clocks, moved}
use Rattle.px_debug.specs.declared.session.Going.{Going}
use Rattle.px_debug.specs.declared.session.Going.TheVariants as g

-- a session before the first broadcast, to which no line was given
abbrev pub session_opened : SceneView → SessionView
session_opened scene = record { scene = scene; now = 0; lines = 0 }

-- where a session stands after a line
unfoldable pub after_line : SessionView → (line : List ℕ) → SessionView
after_line s line = record { scene = s.scene; now = moved s.scene s.now (line_command line); lines = s.lines + 1 }

-- its answer to the line
unfoldable pub answer_line : (bits : ℕ) → SessionView → (line : List ℕ) → List ℕ
answer_line bits s line = answer bits s.scene (moved s.scene s.now (line_command line)) (s.lines + 1)
    (line_command line)

abbrev pub is_last : Going → Bool
is_last g.Quit = true
is_last g.More = false

-- whether a line is a `quit`
unfoldable pub is_quit : List ℕ → Bool
is_quit line = is_last (going (line_command line))

-- the most clocks that a line makes
unfoldable pub line_clocks : SessionView → (line : List ℕ) → ℕ
line_clocks s line = most_clocks s.scene s.now (line_command line)

-- what comes of lines: where the session stands, whether one of them was a `quit`, its answers, and the most clocks
-- that they make
pub record Sitting : Type 0 where
  pub session : SessionView
  pub quit : Bool
  pub said : List ℕ
  pub clocks : ℕ

-- of no line
abbrev pub no_sitting : SessionView → Sitting
no_sitting s = record { session = s; quit = false; said = []; clocks = 0 }

-- of one line more, which behind a `quit` counts for nothing
abbrev pub turned : (bits : ℕ) → Sitting → (line : List ℕ) → Sitting
turned bits at line = if at.quit then at else record {
  session = after_line at.session line;
  quit = is_quit line;
  said = at.said ++ answer_line bits at.session line;
  clocks = at.clocks + line_clocks at.session line;
}

-- of all of these lines, one after another
abbrev pub sitting : (bits : ℕ) → SessionView → List (List ℕ) → Sitting
sitting bits s lines = fold (turned bits) (no_sitting s) lines

-- a session, the work of the array that it is lent, and its output
pub record Stand : Type 0 where
  pub session : SessionView
  pub work : ℕ
  pub out : SinkState

abbrev pub stand : SessionView → (work : ℕ) → (out : SinkState) → Stand
stand session work out = record { session = session; work = work; out = out }

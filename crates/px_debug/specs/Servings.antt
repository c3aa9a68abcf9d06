-- What comes of answering lines as they are read. Clauses of public calls stand on it.
use Rattle.std.specs.Prelude.{◌≡◌, ◌⊎◌, ℕ, ◌+◌, ◌-◌, ◌<◌, ◌≤◌, Bool, true, false, List, ◌∷◌, ◌++◌, ⊤, length, take}
use Rattle.std.specs.Prelude.{Option}
use Rattle.std.specs.Io.KnownBytes.{Consumes, IsAtEnd}
use Rattle.px_io.specs.Counts.{Rose}
use Rattle.px_io.specs.Reports.{FinishesWith, SinkState, TakesAll, TakesFront}
use Rattle.px_asked.specs.Lines.{all_lines, whole_lines}
use Rattle.px_debug.specs.Prompts.{Moment, Prompts}
use Rattle.px_debug.specs.Sessions.{Sitting, Stand, after_line, answer_line, line_clocks, sitting}
use Rattle.px_debug.specs.declared.serving.Ending.{Ending}
use Rattle.px_debug.specs.declared.serving.Ending.TheVariants as e

-- all of these bytes went to a sink, which is then finished where `ends` is true
abbrev pub Gives : (ends : Bool) → (before after : SinkState) → List ℕ → Type 0
Gives true before after bytes = FinishesWith before after bytes
Gives false before after bytes = TakesAll before after bytes

-- lines were obeyed and answered, as that comes to, and the output then finished where `ends` is true
pub record Answered (ends : Bool) (from now : Stand) (to : Sitting) : Type 0 where
  pub session : now.session ≡ to.session
  pub work : now.work ≤ from.work + to.clocks
  pub wrote : Gives ends from.out now.out to.said

-- a write failed in the answer to one of the lines: those before it were answered, none of them a `quit`, the line was
-- obeyed, and a front of its answer was written
pub record Broken (bits : ℕ) (from now : Stand) (lines : List (List ℕ)) : Type 0 where
  pub front : List (List ℕ)
  pub line : List ℕ
  pub rest : List (List ℕ)
  pub split : lines ≡ front ++ line ∷ rest
  pub before : Stand
  pub answered : Answered false from before (sitting bits from.session front)
  pub quiet : (sitting bits from.session front).quit ≡ false
  pub session : now.session ≡ after_line before.session line
  pub work : now.work ≤ before.work + line_clocks before.session line
  pub wrote : TakesFront before.out now.out (answer_line bits before.session line)

-- or it failed in finishing behind the last
abbrev pub Breaks : (bits : ℕ) → (from now : Stand) → List (List ℕ) → Type 0
Breaks bits from now lines = Broken bits from now lines ⊎ Answered false from now (sitting bits from.session lines)

-- lines: those that line feeds end, and with them a last piece
pub record Lines : Type 0 where
  pub whole : List (List ℕ)
  pub all : List (List ℕ)

-- those of a text
abbrev pub lines_in : List ℕ → Lines
lines_in text = record { whole = whole_lines text; all = all_lines text }

-- what came of lines, by how it ended; behind a `quit` and at the end the output was finished
abbrev pub HasServed : Ending → (bits : ℕ) → (from now : Stand) → Lines → Type 0
HasServed e.Quit bits from now lines =
    Answered true from now (sitting bits from.session lines.all)
    × ((sitting bits from.session lines.whole).quit ≡ true)
HasServed e.End bits from now lines =
    Answered true from now (sitting bits from.session lines.all)
    × ((sitting bits from.session lines.whole).quit ≡ false)
HasServed e.WriteFault bits from now lines = Breaks bits from now lines.all
HasServed ending bits from now lines =
    Answered false from now (sitting bits from.session lines.whole)
    × ((sitting bits from.session lines.whole).quit ≡ false)

-- what was read of at most so many bytes, by how it ended
abbrev pub HasRead : Ending → (bytes : List ℕ) → (more : ℕ) → (rest : Option (List ℕ)) → Type 0
HasRead e.End bytes more rest = (length bytes < more) × IsAtEnd rest
HasRead e.Long bytes more rest = length bytes ≡ more
HasRead ending bytes more rest = ⊤

-- of so many bytes that may yet be read the last is only to be reported
abbrev pub seen : (more : ℕ) → List ℕ → List ℕ
seen more bytes = take (more - 1) bytes

-- which counts of faults rose, of the input and of the output
abbrev pub HasReadCause : Ending → (old new : ℕ) → Type 0
HasReadCause e.ReadFault old new = Rose old new
HasReadCause ending old new = new ≡ old

abbrev pub HasOutCause : Ending → (old new : ℕ) → Type 0
HasOutCause e.WriteFault old new = Rose old new
HasOutCause ending old new = new ≡ old

-- some bytes were read before, and more of the input here: the lines of both were answered, each before more
-- was asked for
pub record Serves (ending : Ending) (bits : ℕ) (read : List ℕ) (more : ℕ) (before after : Moment) : Type 0 where
  pub bytes : List ℕ
  pub few : length bytes ≤ more
  pub taken : Consumes before.rest after.rest bytes
  pub ended : HasRead ending bytes more after.rest
  pub served : HasServed ending bits before.at after.at (lines_in (read ++ seen more bytes))
  pub cause : HasReadCause ending before.faults after.faults
  pub out_cause : HasOutCause ending before.at.out.faults after.at.out.faults
  pub prompts : Prompts bits read more before after

-- The lines that the notes get. Clauses of public calls stand on them.
use Rattle.std.specs.Prelude.{◌⊎◌, ℕ, ℤ, List, ◌++◌, Result, Ok, Err, codes, decimal}
use Rattle.std.specs.Fmt.{signed_decimal}
use Rattle.px_io.specs.Counts.{Still}
use Rattle.px_io.specs.Reports.{FinishesWith, SinkState, TakesFront, TakesNone}
use Rattle.px_show.specs.declared.fault.Cause.{Cause}
use Rattle.px_commands.specs.Words.{cause_word, list_word, scene_word}
use Rattle.px_commands.specs.declared.refusal.Kind.{Kind}
use Rattle.px_commands.specs.declared.refusal.Kind.TheVariants as kinds
use Rattle.px_commands.specs.declared.refusal.Refusal.{Refusal}
use Rattle.px_commands.specs.declared.refusal.Refusal.TheVariants as r
use Rattle.px_commands.specs.declared.stop.Stop.{Stop}
use Rattle.px_commands.specs.declared.stop.Stop.TheVariants as s

abbrev pub kind_word : Kind → List ℕ
kind_word (kinds.Scene kind) = scene_word kind
kind_word kinds.Lights = codes "lights"
kind_word kinds.Tiles = codes "tiles"
kind_word (kinds.List kind) = list_word kind

unfoldable pub malformed_line : ℕ → Cause → List ℕ
malformed_line line cause = codes "malformed line " ++ decimal line ++ codes ": " ++ cause_word cause ++ codes "\n"

unfoldable pub limit_line : ℕ → Kind → ℤ → List ℕ
limit_line line kind found = codes "limit line " ++ decimal line ++ codes ": " ++ kind_word kind ++ codes " "
    ++ signed_decimal found ++ codes "\n"

abbrev pub usage_line : List ℕ
usage_line = codes "usage: pxplanes [render|colour|tidy|plan|cost|debug|sample N|shadow|tile W H|refine K|list|play]\n"

abbrev pub read_fault_line : List ℕ
read_fault_line = codes "read fault\n"

abbrev pub write_fault_line : List ℕ
write_fault_line = codes "write fault\n"

abbrev pub memory_line : List ℕ
memory_line = codes "out of memory\n"

abbrev pub refusal_line : Refusal → List ℕ
refusal_line (r.Malformed line cause) = malformed_line line cause
refusal_line (r.Limit line kind found) = limit_line line kind found

-- the line of a stop
abbrev pub note_of : Stop → List ℕ
note_of s.Usage = usage_line
note_of (s.Refused reason) = refusal_line reason
note_of s.ReadFault = read_fault_line
note_of s.WriteFault = write_fault_line
note_of (s.Memory _) = memory_line

-- a line was written whole and the notes finished where they had no fault, and otherwise so or a front of it that is
-- not finished
pub record IsTold (line : List ℕ) (before after : SinkState) : Type 0 where
  pub whole : Still before.faults after.faults → FinishesWith before after line
  pub front : FinishesWith before after line ⊎ TakesFront before after line

-- a stop writes its line; where there is none the notes are as before
abbrev pub IsNoted : Result (Unit {0}) Stop → (before after : SinkState) → Type 0
IsNoted (Ok u) before after = TakesNone before after
IsNoted (Err stop) before after = IsTold (note_of stop) before after

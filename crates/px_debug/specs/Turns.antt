-- What comes of bytes that are fed to a session. Only proofs and private functions stand on it.
use Rattle.std.specs.Prelude.{◌≡◌, ℕ, Bool, true, false, List, [], ⊤, length, Result, Ok, Err}
use Rattle.px_debug.specs.declared.session.Going.{Going}
use Rattle.px_debug.specs.declared.session.Going.TheVariants as g
use Rattle.px_asked.specs.Lines.{left, whole_lines}
use Rattle.px_debug.specs.Buffers.{short}
use Rattle.px_debug.specs.Servings.{Answered, Broken}
use Rattle.px_debug.specs.Sessions.{Stand, is_last, sitting}
use Rattle.px_debug.specs.declared.serving.Ending.{Ending}
use Rattle.px_debug.specs.declared.serving.Ending.TheVariants as e

-- lines were answered, and whether the last that counts was a `quit` is reported
pub record Went (on : Going) (bits : ℕ) (from now : Stand) (lines : List (List ℕ)) : Type 0 where
  pub answered : Answered false from now (sitting bits from.session lines)
  pub going : is_last on ≡ (sitting bits from.session lines).quit

-- or a write failed in an answer
abbrev pub Gave : {E : Type 0} → Result Going E → (bits : ℕ) → (from now : Stand) → List (List ℕ) → Type 0
Gave (Ok on) bits from now lines = Went on bits from now lines
Gave (Err fault) bits from now lines = Broken bits from now lines

-- the whole lines of a text were, and this is kept of the line that is not whole
pub record Fed (on : Going) (bits : ℕ) (text : List ℕ) (from now : Stand) (buffer : List ℕ) : Type 0 where
  pub went : Went on bits from now (whole_lines text)
  pub held : on ≡ g.More → buffer ≡ short (left [] text)

-- what was read, of so many bytes that might be, where no more is read
abbrev pub EndsIn : Ending → (limit : ℕ) → (bytes : List ℕ) → Type 0
EndsIn e.End limit bytes = bytes ≡ []
EndsIn e.Long limit bytes = length bytes ≡ limit
EndsIn e.ReadFault limit bytes = ⊥
EndsIn ending limit bytes = ⊤

-- the end of a session, by whether a line was a `quit`
abbrev pub ending_at : (quit : Bool) → Ending
ending_at true = e.Quit
ending_at false = e.End

-- What had been answered each time that more was asked for. Clauses of public calls stand on it.
use Rattle.std.specs.Prelude.{◌≡◌, ℕ, ◌+◌, ◌<◌, false, List, Option, length}
use Rattle.std.specs.Io.KnownBytes.{Appends, Consumes}
use Rattle.px_io.specs.Reports.{SinkState}
use Rattle.px_asked.specs.Asks.{Ask, Asked, EachTime, all_given}
use Rattle.px_debug.specs.Moves.{SessionView}
use Rattle.px_asked.specs.Lines.{whole_lines}
use Rattle.px_debug.specs.Sessions.{Stand, sitting, stand}

-- a session with its output, and its input: how it was asked, the bytes to come, and its count of faults
pub record Moment : Type 0 where
  pub at : Stand
  pub asks : Option (List Ask)
  pub rest : Option (List ℕ)
  pub faults : ℕ

abbrev pub moment : SessionView → (work : ℕ) → (out : SinkState) → (asks : Option (List Ask)) → (rest : Option (List ℕ))
    → (faults : ℕ) → Moment
moment session work out asks rest faults =
    record { at = stand session work out; asks = asks; rest = rest; faults = faults }

-- the whole lines of what was read before had been answered, and nothing else, none of them was a `quit`, and of so
-- many bytes in all some were left to be read
abbrev pub IsPrompt : (bits : ℕ) → (from : Stand) → (limit : ℕ) → (told : Option (List ℕ)) → (text : List ℕ) → Type 0
IsPrompt bits from limit told text =
    Appends from.out.written told (sitting bits from.session (whole_lines text)).said
    × ((sitting bits from.session (whole_lines text)).quit ≡ false)
    × (length text < limit)

-- some bytes were read before, and more asked for here, at most so many, each time so
pub record Prompts (bits : ℕ) (read : List ℕ) (more : ℕ) (before after : Moment) : Type 0 where
  pub asks : List Ask
  pub asked : Asked before.asks after.asks asks
  pub taken : Consumes before.rest after.rest (all_given asks)
  pub prompt : EachTime (IsPrompt bits before.at (length read + more)) read asks

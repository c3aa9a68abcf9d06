-- What is said of the ends of a run: of its input, its output, its array and its notes. Clauses of public calls
-- stand on it.
use Rattle.std.specs.Prelude.{◌≡◌, ℕ, List, Option}
use Rattle.px_io.specs.Reports.{SinkState, TakesNone}
use Rattle.px_array.specs.Slots.{ArrayView}

-- of the input the bytes to come and the count of faults, what the output reports, and the array
pub record Ends : Type 0 where
  pub rest : Option (List ℕ)
  pub faults : ℕ
  pub out : SinkState
  pub array : ArrayView

abbrev pub ends : (rest : Option (List ℕ)) → (faults : ℕ) → SinkState → ArrayView → Ends
ends rest faults out array = record { rest = rest; faults = faults; out = out; array = array }

-- and the notes of a whole run
pub record AllEnds : Type 0 where
  pub ends : Ends
  pub notes : SinkState

abbrev pub with_notes : Ends → (notes : SinkState) → AllEnds
with_notes e notes = record { ends = e; notes = notes }

-- the bytes of an input, and those of them that were taken
pub record Input : Type 0 where
  pub bytes : List ℕ
  pub taken : List ℕ

-- nothing was written, and the array is as before, its slots and its work too
pub record IsUntouched (before after : Ends) : Type 0 where
  pub out : TakesNone before.out after.out
  pub array : after.array ≡ before.array

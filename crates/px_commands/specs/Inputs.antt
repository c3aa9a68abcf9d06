-- What a command does over an input: what it answers for the bytes, what it leaves, and what it takes. Clauses of
-- public calls stand on it.
use Rattle.std.specs.Prelude.{ℕ, ◌≡◌, ◌++◌, List, ⊤, Option, Some, None, Result, drop}
use Rattle.std.specs.Io.KnownBytes.{Consumes}
use Rattle.px_io.specs.Reports.{ConsumesAtMost}
use Rattle.px_array.specs.Slots.{ArrayView}
use Rattle.px_commands.specs.declared.refusal.TheConstants.{READ_LIMIT}
use Rattle.px_commands.specs.declared.stop.Stop.{Stop}
use Rattle.px_commands.specs.declared.status.Status.{Status}
use Rattle.px_commands.specs.declared.status.Status.TheVariants as status
use Rattle.px_commands.specs.Ends.{Ends, Input}
use Rattle.px_commands.specs.Outcomes.{Outcome, output}
use Rattle.px_commands.specs.Results.{Meets, Wrote}

-- where an input reports its bytes, it is these
abbrev pub IsInput : Option (List ℕ) → List ℕ → Type 0
IsInput None bytes = ⊤
IsInput (Some known) bytes = bytes ≡ known

-- some bytes begin with others
abbrev pub BeginsWith : (bytes first : List ℕ) → Type 0
BeginsWith bytes first = (more : List ℕ) × (bytes ≡ first ++ more)

-- over an input, whose bytes begin with those that were taken, the result is that of the bytes' answer, and
-- this is left
pub record PerformsOver (result : Result (Unit {0}) Stop) (answer : List ℕ → Outcome) (Leaves : Input → Type 0)
    (before after : Ends)
    : Type 0 where
  pub input : Input
  pub known : IsInput before.rest input.bytes
  pub consumed : Consumes before.rest after.rest input.taken
  pub front : BeginsWith input.bytes input.taken
  pub meets : Meets result (answer input.bytes)
  pub leaves : Leaves input

-- the output of an outcome was written, as the result says, and the array is left so
pub record WritesAndLeaves (result : Result (Unit {0}) Stop) (o : Outcome) (Leaves : (before now : ArrayView)
    → Type 0) (before after : Ends)
    : Type 0 where
  pub wrote : Wrote result (output o) before.out after.out
  pub array : Leaves before.array after.array

-- the rest after as many bytes as a text may have and one more
abbrev pub IsRestBehind : Option (List ℕ) → Option (List ℕ) → Type 0
IsRestBehind None new = ⊤
IsRestBehind (Some bytes) new = new ≡ Some (drop READ_LIMIT bytes)

-- a whole text was taken, or its first bytes up to one past the limit of a text; at most as many where reading
-- failed or memory
abbrev pub TookText : Status → Option (List ℕ) → Option (List ℕ) → Type 0
TookText status.ReadFault old new = ConsumesAtMost old new READ_LIMIT
TookText (status.Memory _) old new = ConsumesAtMost old new READ_LIMIT
TookText status old new = IsRestBehind old new

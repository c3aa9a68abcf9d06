-- What `debug` had answered each time that it asked for more. Clauses of public calls stand on it.
use Rattle.std.specs.Prelude.{◌≡◌, ℕ, List, [], false, true, if◌then◌else◌, Option}
use Rattle.std.specs.Io.KnownBytes.{Appends, Consumes}
use Rattle.px_asked.specs.Asks.{Ask, Asked, EachTime, all_given}
use Rattle.px_draw.specs.Debugs.{Admits, has_part, whole_sitting}

-- what is to be written before more is asked for behind these bytes: nothing until the scene part is whole, and
-- then the answers to all command lines that line feeds end
unfoldable pub due : (bits : ℕ) → (taken : List ℕ) → List ℕ
due bits taken = if has_part taken then (whole_sitting bits taken).said else []

-- more may be asked for: a scene part that is whole is a scene's that the array can draw, and no whole line is a `quit`
abbrev pub GoesOn : (bits : ℕ) → (taken : List ℕ) → Type 0
GoesOn bits taken = has_part taken ≡ true → Admits bits taken × ((whole_sitting bits taken).quit ≡ false)

-- all that had to be written had been, and nothing else
abbrev pub IsInTime : (bits : ℕ) → (written told : Option (List ℕ)) → (taken : List ℕ) → Type 0
IsInTime bits written told taken = Appends written told (due bits taken) × GoesOn bits taken

-- a source was asked some times, each time with all written that had to be, and gave the bytes that were taken
pub record AnswersInTime (bits : ℕ) (asks_old asks_new : Option (List Ask)) (rest_old rest_new : Option (List ℕ))
    (written : Option (List ℕ)) : Type 0 where
  pub asks : List Ask
  pub asked : Asked asks_old asks_new asks
  pub taken : Consumes rest_old rest_new (all_given asks)
  pub in_time : EachTime (IsInTime bits written) [] asks

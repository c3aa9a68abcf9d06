-- What was asked for while nothing was written. Clauses of public calls stand on it.
use Rattle.std.specs.Prelude.{◌≡◌, ℕ, ◌-◌, [], List, Option, None, take}
use Rattle.std.specs.Io.KnownBytes.{Consumes}
use Rattle.px_asked.specs.Asks.{Ask, Asked, EachTime, all_given}
use Rattle.px_asked.specs.Parts.{part_end}

-- the sink had taken what it had at first, and no scene part was whole in what was read before, of which the last byte
-- that may be read does not count
abbrev pub IsSilent : (limit : ℕ) → (written : Option (List ℕ)) → (told : Option (List ℕ)) → (text : List ℕ) → Type 0
IsSilent limit written told text = (told ≡ written) × (part_end (take (limit - 1) text) ≡ None)

-- a source was asked some times, as long as no scene part was whole and while nothing was written, and gave these bytes
pub record Listens (limit : ℕ) (asks_old asks_new : Option (List Ask)) (written : Option (List ℕ)) (bytes : List ℕ) :
    Type 0 where
  pub asks : List Ask
  pub asked : Asked asks_old asks_new asks
  pub given : all_given asks ≡ bytes
  pub silent : EachTime (IsSilent limit written) [] asks

-- and some bytes were taken of it, these
abbrev pub ListenedTo : (limit : ℕ) → (asks_old asks_new : Option (List Ask)) → (written : Option (List ℕ))
    → (rest_old rest_new : Option (List ℕ)) → Type 0
ListenedTo limit asks_old asks_new written rest_old rest_new =
    (bytes : List ℕ) × Consumes rest_old rest_new bytes × Listens limit asks_old asks_new written bytes

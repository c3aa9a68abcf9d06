-- What was taken since reading began, while nothing was written. Only proofs and private functions stand on it.
use Rattle.std.specs.Prelude.{◌≡◌, ℕ, ◌-◌, List, Option, None, take}
use Rattle.std.specs.Io.KnownBytes.{Consumes}
use Rattle.px_asked.specs.Asks.{Ask}
use Rattle.px_asked.specs.Listenings.{Listens}
use Rattle.px_asked.specs.Parts.{part_end}

-- how many bytes a source may be asked for, and what it had given, and had been asked, where that began
pub record HearingBegun : Type 0 where
  pub limit : ℕ
  pub asks : Option (List Ask)
  pub rest : Option (List ℕ)

-- since then these bytes were taken, and the sink had what it has now each time
pub record Heard (begun : HearingBegun) (asks : Option (List Ask)) (rest written : Option (List ℕ)) (bytes : List ℕ) :
    Type 0 where
  pub taken : Consumes begun.rest rest bytes
  pub listens : Listens begun.limit begun.asks asks written bytes

-- and no scene part is whole in them, so that more may be asked for
pub record Waits (begun : HearingBegun) (asks : Option (List Ask)) (rest written : Option (List ℕ)) (bytes : List ℕ) :
    Type 0 where
  pub heard : Heard begun asks rest written bytes
  pub none : part_end (take (begun.limit - 1) bytes) ≡ None

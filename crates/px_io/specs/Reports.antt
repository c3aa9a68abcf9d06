-- What is said of bytes and of an end. Clauses of public calls stand on it.
use Rattle.std.specs.Prelude.{◌≡◌, ℕ, ◌<◌, ◌≤◌, List, length, take, Bool, true, false, ⊤, Result, MatchResult}
use Rattle.std.specs.Io.KnownBytes.{Appends, Consumes, Keeps}
use Rattle.std.specs.declared.option.Option.{Option}
use Rattle.std.specs.declared.option.Option.TheVariants.{Some, None}

-- known bytes lost a front of at most so many
abbrev pub ConsumesAtMost : Option (List ℕ) → Option (List ℕ) → ℕ → Type 0
ConsumesAtMost old new limit = (bytes : List ℕ) × Consumes old new bytes × (length bytes ≤ limit)

-- these are the first `limit` of the known bytes, or all of them where there are fewer
abbrev pub IsFrontOf : Option (List ℕ) → ℕ → List ℕ → Type 0
IsFrontOf None limit bytes = ⊤
IsFrontOf (Some known) limit bytes = bytes ≡ take limit known

-- where it is reported, it is this
abbrev pub Tells : Option Bool → Bool → Type 0
Tells None answer = ⊤
Tells (Some told) answer = told ≡ answer

-- a sink that took so many bytes is no more finished, and one that took none is as before
pub record Reopens (old new : Option Bool) (count : ℕ) : Type 0 where
  pub taken : 0 < count → Tells new false
  pub idle : count ≡ 0 → new ≡ old

-- what a sink reports of itself: the bytes taken, whether it is finished, and its count of faults
pub record SinkState : Type 0 where
  pub written : Option (List ℕ)
  pub finished : Option Bool
  pub faults : ℕ

-- all of these bytes went to a sink, which then is no more finished where there was one
pub record TakesAll (before after : SinkState) (bytes : List ℕ) : Type 0 where
  pub all : Appends before.written after.written bytes
  pub end : Reopens before.finished after.finished (length bytes)

-- the first so many of these bytes went to a sink, which then is no more finished where one of them did
pub record TakesFirst (n : ℕ) (before after : SinkState) (bytes : List ℕ) : Type 0 where
  pub within : n ≤ length bytes
  pub front : Appends before.written after.written (take n bytes)
  pub end : Reopens before.finished after.finished n

-- a front of these bytes went to a sink, which then is no more finished where one of them did
abbrev pub TakesFront : (before after : SinkState) → List ℕ → Type 0
TakesFront before after bytes = (n : ℕ) × TakesFirst n before after bytes

-- all of these bytes went to a sink, which then was finished
pub record FinishesWith (before after : SinkState) (bytes : List ℕ) : Type 0 where
  pub all : Appends before.written after.written bytes
  pub end : Tells after.finished true

-- a sink took nothing, and is as finished as before
pub record TakesNone (before after : SinkState) : Type 0 where
  pub all : Keeps before.written after.written
  pub end : after.finished ≡ before.finished

-- a write reopens a sink by what it took, and leaves it where it failed
abbrev pub WriteReopens : {E : Type 0} → Option Bool → Option Bool → Result ℕ E → Type 0
WriteReopens old new result = MatchResult result (Reopens old new) (λ _. new ≡ old)

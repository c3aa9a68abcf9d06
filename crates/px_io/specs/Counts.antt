-- What a call does to a count of calls or faults, and what a count says of an answer. Clauses of public calls
-- stand on it.
use Rattle.std.specs.Prelude.{◌≡◌, ℕ, ◌+◌, ◌-◌, ◌^◌, ◌<◌, ◌≤◌, min, List, length, OnOk, OnErr, IfOk, Result}

-- one more, up to the end of the type, where a count stays
abbrev pub one_more : ℕ → ℕ
one_more count = min (count + 1) (2 ^ 64 - 1)

-- the count is greater now, or stood at its end before
abbrev pub Rose : ℕ → ℕ → Type 0
Rose before now = one_more before ≤ now

-- the count is as before, and below its end, so that a fault would have shown
pub record Still (before now : ℕ) : Type 0 where
  pub below : before < 2 ^ 64 - 1
  pub same : now ≡ before

-- an Ok leaves the count of faults, and an Err comes only where it rose
pub record HasCause {T E : Type 0} (before now : ℕ) (result : Result T E) : Type 0 where
  pub later : before ≤ now
  pub calm : OnOk result (now ≡ before)
  pub failed : OnErr result (Rose before now)

-- the same of a write, where an Ok(0) for a piece that is not empty comes only with a fault too
pub record HasWriteCause {E : Type 0} (before now : ℕ) (result : Result ℕ E) (piece : List ℕ)
    : Type 0 where
  pub later : before ≤ now
  pub calm : IfOk result (λ n. 0 < n → now ≡ before)
  pub empty : OnOk result (length piece ≡ 0 → now ≡ before)
  pub stuck : IfOk result (λ n. n ≡ 0 → 0 < length piece → Rose before now)
  pub failed : OnErr result (Rose before now)

-- Bytes of which the last ones wait to be written. Only proofs and private functions stand on it.
use Rattle.std.specs.Prelude.{◌≡◌, ℕ, ◌++◌, List}
use Rattle.px_io.specs.Reports.{SinkState, TakesAll}

-- all of these bytes went to a sink but the last of them, which wait
pub record TakesAllBut (waiting : List ℕ) (before after : SinkState) (bytes : List ℕ) : Type 0 where
  pub gone : List ℕ
  pub whole : gone ++ waiting ≡ bytes
  pub all : TakesAll before after gone

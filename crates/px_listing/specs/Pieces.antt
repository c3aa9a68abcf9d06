-- Bytes that wait to be written in larger pieces. Clauses of public calls stand on it.
use Rattle.std.specs.Prelude.{◌≡◌, ℕ, List, ◌++◌}
use Rattle.px_io.specs.Reports.{SinkState, TakesAll}

-- a sink took the bytes that had waited and these, but for the ones that wait now
pub record Puts (before after : SinkState) (waited bytes waits : List ℕ) : Type 0 where
  pub taken : List ℕ
  pub all : TakesAll before after taken
  pub rest : taken ++ waits ≡ waited ++ bytes

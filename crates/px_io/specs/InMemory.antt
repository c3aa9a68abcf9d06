-- A source and a sink over memory, as contracts see them. Clauses of public calls stand on it.
use Rattle.std.specs.Prelude.{ℕ, List, Bool}

pub record SourceView : Type 0 where
  pub rest : List ℕ
  pub piece : ℕ
  pub failing : List ℕ
  pub calls : ℕ
  pub faults : ℕ

-- what was written, the room, the bytes a call takes at most, the calls that fail, the calls and faults so far, and
-- whether it is finished
pub record SinkView : Type 0 where
  pub written : List ℕ
  pub room : ℕ
  pub piece : ℕ
  pub failing : List ℕ
  pub calls : ℕ
  pub faults : ℕ
  pub finished : Bool

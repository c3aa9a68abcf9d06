-- A reader or a writer of std, with its count of faults. Clauses of public calls stand on it.
use Rattle.std.specs.Prelude.{ℕ}

pub record EdgeView (End : Type 0) : Type 0 where
  pub end : End
  pub faults : ℕ

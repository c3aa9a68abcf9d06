-- Words that are lent: what stands behind references to them. Clauses of public calls stand on it.
use Rattle.std.specs.Prelude.{ℕ, List, map}
use Rattle.std.specs.Borrow.{Bor}
use Rattle.px_text.specs.Text.{Words}

-- the words behind references
abbrev pub now_of : List (Bor (List ℕ)) → Words
now_of ws = map (λ w. w.now) ws

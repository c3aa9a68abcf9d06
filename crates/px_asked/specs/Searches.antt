-- How far a text was searched for the end of its scene part. Only proofs and private functions stand on it.
use Rattle.std.specs.Prelude.{◌≡◌, ℕ, ◌≤◌, ◌-◌, List, [], None, drop, length, take}
use Rattle.px_asked.specs.Lines.{left}
use Rattle.px_asked.specs.Parts.{part_end}
use Rattle.px_asked.specs.declared.search.Search.{Search}

-- the part does not end in the bytes that were seen, and the line that they leave is known
pub record HasSeen (s : Search) (text : List ℕ) : Type 0 where
  pub order : s.line ≤ s.at
  pub within : s.at ≤ length text
  pub line : take (s.at - s.line) (drop s.line text) ≡ left [] (take s.at text)
  pub none : part_end (take s.at text) ≡ None

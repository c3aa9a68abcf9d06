-- The laws of sessions. Clauses of public calls stand on it.
use Rattle.std.specs.Prelude.{◌≡◌, ℕ, List, ◌++◌, true}
use Rattle.px_debug.specs.Moves.{SessionView}
use Rattle.px_asked.specs.Lines.{all_lines, whole_lines}
use Rattle.px_debug.specs.Sessions.{sitting}

-- a session keeps its scene
abbrev pub SceneStays : Type 0
SceneStays = (bits : ℕ) (s : SessionView) (lines : List (List ℕ)) → (sitting bits s lines).session.scene ≡ s.scene

-- the bytes behind a quit count for nothing
pub record StaysOver (bits : ℕ) (s : SessionView) (xs ys : List ℕ) : Type 0 where
  pub whole : sitting bits s (whole_lines (xs ++ ys)) ≡ sitting bits s (whole_lines xs)
  pub all : sitting bits s (all_lines (xs ++ ys)) ≡ sitting bits s (all_lines xs)

abbrev pub QuitEnds : Type 0
QuitEnds =
    (bits : ℕ) (s : SessionView) (xs ys : List ℕ) → (sitting bits s (whole_lines xs)).quit ≡ true
    → StaysOver bits s xs ys

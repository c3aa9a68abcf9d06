use Rattle.px_num.proofs.Basics.{◌≡◌, ◌*◌, ◌+◌, ◌<◌, ℕ, [], length, get_or}
use Rattle.px_planes.proofs.slot.take_rows.Given as goal

abbrev pub invariant-loop-at : goal.invariant-loop-at
invariant-loop-at l = record {
  each : (k j : ℕ) → k < l.at → j < l.words → get_or l.shelf.words (k * l.words + j) 0
      ≡ get_or (get_or l.rows k []) j 0;
  long : (k : ℕ) → k < length l.rows → length (get_or l.rows k []) ≡ l.words;
}

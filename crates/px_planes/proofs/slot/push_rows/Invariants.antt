use Rattle.px_num.proofs.Basics.{◌≡◌, ◌*◌, ◌+◌, ◌<◌, ℕ, [], length, get_or}
use Rattle.px_planes.proofs.slot.push_rows.Given as goal

abbrev pub invariant-loop-at : goal.invariant-loop-at
invariant-loop-at l = record {
  long : length l.shelf.words ≡ l.at * l.words;
  each : (k j : ℕ) → k < l.at → j < l.words → get_or l.shelf.words (k * l.words + j) 0
      ≡ get_or (get_or l.rows k []) j 0;
  room : l.shelf.room ≡ l.fn.shelf.room;
}

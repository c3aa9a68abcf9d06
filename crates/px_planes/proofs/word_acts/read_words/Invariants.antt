use Rattle.px_num.proofs.Basics.{◌≡◌, ℕ, ◌<◌, ◌+◌, length, get_or, []}
use Rattle.px_planes.proofs.word_acts.read_words.Given as goal

abbrev pub invariant-loop-t : goal.invariant-loop-t
invariant-loop-t l = record {
  done : (s : ℕ) → s < l.t → get_or l.values s 0 ≡ get_or (get_or l.planes.memory.items (l.at + s) []) l.w 0;
  whole : length l.values ≡ length l.fn.values;
}

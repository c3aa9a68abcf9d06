use Rattle.px_num.proofs.Basics.{◌≡◌, ◌≢◌, ℕ, ◌<◌, ◌≤◌, [], length, get_or}
use Rattle.px_rows.proofs.value_blocks.put_words.Given as goal

abbrev pub invariant-loop-t : goal.invariant-loop-t
invariant-loop-t l = record {
  here : (s : ℕ) → s < l.t → get_or (get_or l.words s []) l.k 0 ≡ get_or l.values s 0;
  beside : (s i : ℕ) → s < l.t → i ≢ l.k → get_or (get_or l.words s []) i 0 ≡ get_or (get_or l.fn.words s []) i 0;
  rest : (s : ℕ) → l.t ≤ s → get_or l.words s [] ≡ get_or l.fn.words s [];
  whole : length l.words ≡ length l.fn.words;
}

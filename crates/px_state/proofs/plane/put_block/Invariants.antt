use Rattle.px_state.proofs.Cited.{get_or, length, row_words, ℕ, ◌%◌, ◌*◌, ◌+◌, ◌/◌, ◌<◌, ◌^◌, ◌≡◌, ◌≢◌}
use Rattle.px_state.proofs.plane.put_block.Given as goal

abbrev pub invariant-loop-y : goal.invariant-loop-y
invariant-loop-y l =
    let each = row_words l.shape.nx in
    record {
      put : (y : ℕ) → y < l.y → y / 64 ≡ l.b / each
          → get_or l.words (l.first + (y * each + l.b % each)) 0 ≡ get_or l.block (y % 64) 0;
      others : (k : ℕ) → ((y : ℕ) → y < 2 ^ l.shape.ny → y / 64 ≡ l.b / each → k ≢ l.first + (y * each + l.b % each))
          → get_or l.words k 0 ≡ get_or l.fn.words k 0;
      same : length l.words ≡ length l.fn.words;
    }

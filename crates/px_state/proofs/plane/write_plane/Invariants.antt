use Rattle.px_state.proofs.Cited.{KeepsOutside, placed, row_words, word_bit, ℕ, ◌*◌, ◌+◌, ◌/◌, ◌<◌, ◌^◌, ◌≡◌}
use Rattle.px_state.proofs.plane.write_plane.Given as goal

abbrev pub invariant-loop-b : goal.invariant-loop-b
invariant-loop-b l =
    let each = row_words l.shape.nx in
    record {
      done : (y c i : ℕ) → y < 2 ^ l.shape.ny → c < each → i < 64 → y / 64 * each + c < l.b
          → word_bit l.words (l.first + (y * each + c)) i ≡ placed l.shape l.row l.from (64 * c + i) y;
      kept : KeepsOutside l.first (l.first + l.shape.plane) l.fn.words l.words;
    }

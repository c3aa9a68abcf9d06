use Rattle.px_state.proofs.Cited.{length, row_bit, shuffled, ℕ, ◌*◌, ◌<◌, ◌≡◌}
use Rattle.px_state.proofs.turning.shuffled.Given as goal

abbrev pub invariant-loop-w : goal.invariant-loop-w
invariant-loop-w l = record {
  done : (p : ℕ) → p < 128 * l.w → row_bit l.words p ≡ row_bit l.block (shuffled p);
  same : length l.words ≡ 64;
}

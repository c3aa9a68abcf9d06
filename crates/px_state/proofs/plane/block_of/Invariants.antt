use Rattle.px_state.proofs.Cited.{get_or, length, nat_bit, placed, ℕ, ◌*◌, ◌+◌, ◌<◌, ◌^◌, ◌≡◌}
use Rattle.px_state.proofs.plane.block_of.Given as goal

abbrev pub invariant-loop-i : goal.invariant-loop-i
invariant-loop-i l = record {
  done : (i j : ℕ) → i < l.i → j < 64 → 64 * l.w + j < 2 ^ l.shape.ny
      → nat_bit (get_or l.block i 0) j ≡ placed l.shape l.row l.from (64 * l.c + i) (64 * l.w + j);
  same : length l.block ≡ 64;
}

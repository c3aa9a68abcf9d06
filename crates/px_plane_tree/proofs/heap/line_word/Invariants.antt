use Rattle.px_num.proofs.Basics.{◌≡◌, ℕ, ◌<◌, ◌≤◌, ◌+◌, ◌*◌, false}
use Rattle.px_plane_tree.proofs.Words.{line_bit, nat_bit}
use Rattle.px_plane_tree.proofs.heap.line_word.Given as goal

abbrev pub invariant-loop-j : goal.invariant-loop-j
invariant-loop-j l = record {
  done : (i : ℕ) → i < l.j → nat_bit l.word i ≡ line_bit l.a l.b l.first_b (64 * l.w + i);
  rest : (i : ℕ) → l.j ≤ i → i < 64 → nat_bit l.word i ≡ false;
}

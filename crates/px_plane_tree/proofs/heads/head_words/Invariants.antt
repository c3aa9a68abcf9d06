use Rattle.px_num.proofs.Basics.{◌≡◌, ℕ, ◌<◌, ◌+◌, ◌*◌, length, get_or}
use Rattle.px_plane_tree.proofs.Words.{line_bit, nat_bit}
use Rattle.px_plane_tree.proofs.heads.head_words.Given as goal

abbrev pub invariant-loop-w : goal.invariant-loop-w
invariant-loop-w l = record {
  long : length l.lines.items ≡ l.w;
  each : (k j : ℕ) → k < l.w → j < 64 → nat_bit (get_or l.lines.items k 0) j ≡ line_bit l.a l.b l.first_b (64 * k + j);
}

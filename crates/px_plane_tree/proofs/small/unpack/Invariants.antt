use Rattle.px_num.proofs.Basics.{◌≡◌, ℕ, ◌<◌, ◌≤◌, ◌+◌, ◌^◌, cond, nat_lt, false, get_or}
use Rattle.px_num.specs.Bits.{nat_bit}
use Rattle.px_plane_tree.proofs.small.unpack.Given as goal

abbrev pub invariant-loop-k : goal.invariant-loop-k
invariant-loop-k l = (k j : ℕ) → 1 ≤ k → k < l.k → j < 64 → nat_bit (get_or l.small k 0) j ≡ cond (nat_lt j (2 ^ k))
    (nat_bit l.word (2 ^ k + j)) false

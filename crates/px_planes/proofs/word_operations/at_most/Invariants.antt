use Rattle.px_num.proofs.Basics.{◌≡◌, ℕ, ℤ, pos, ◌<◌, ◌*◌, ◌/◌, ◌%◌, true, length}
use Rattle.px_planes.proofs.Words.{carry_from, flipped, HasValue, nat_bit, number_in, pixel_in}
use Rattle.px_planes.proofs.word_operations.at_most.Given as goal

abbrev pub invariant-loop-t : goal.invariant-loop-t
invariant-loop-t l = (p : ℕ) (u : ℤ) → p < 64 * length l.planes.enable → p / 64 ≡ l.w → HasValue l.values (p % 64) u
    → nat_bit l.most (p % 64) ≡ carry_from true (flipped u) (pos (number_in l.field (pixel_in l.planes p).memory)) l.t

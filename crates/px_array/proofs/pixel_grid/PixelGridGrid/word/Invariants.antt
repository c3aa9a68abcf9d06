use Rattle.px_num.proofs.Basics.{◌≡◌, ℕ, ◌+◌, ◌*◌, ◌<◌, ◌≤◌, false}
use Rattle.px_num.specs.Bits.{nat_bit}
use Rattle.px_array.specs.Words.{memory_bit}
use Rattle.px_array.proofs.pixel_grid.PixelGridGrid.word.Given as goal

abbrev pub invariant-loop-i : goal.invariant-loop-i
invariant-loop-i g l = record {
  done : (j : ℕ) → j < l.i → nat_bit l.word j ≡ memory_bit l.self.state l.at (64 * l.w + j);
  rest : (j : ℕ) → l.i ≤ j → j < 64 → nat_bit l.word j ≡ false;
}

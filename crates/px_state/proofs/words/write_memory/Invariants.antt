use Rattle.px_state.proofs.Cited.{bit_at, HasPlane, KeepsOutside, pixel_here, ℕ, ◌*◌, ◌<◌}
use Rattle.px_state.proofs.words.write_memory.Given as goal

abbrev pub invariant-loop-at : goal.invariant-loop-at
invariant-loop-at g l = record {
  done : (b : ℕ) → b < l.at → HasPlane l.shape (b * l.shape.plane)
      (λ x y. bit_at (pixel_here l.shape l.grid.state.pixels x y).memory b) l.words;
  kept : KeepsOutside 0 (l.shape.bits * l.shape.plane) l.fn.words l.words;
}

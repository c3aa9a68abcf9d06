use Rattle.px_num.proofs.Basics.{◌<◌, ◌≤◌, ◌^◌, ℕ}
use Rattle.px_model.proofs.scene.grid_exponent.Given as goal

abbrev pub invariant-loop-exponent : goal.invariant-loop-exponent
invariant-loop-exponent l = (m : ℕ) → 1 ≤ m → m < l.exponent → 2 ^ m < l.size

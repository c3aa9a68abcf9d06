use Rattle.px_num.proofs.Basics.{ℕ, pos, ◌≡◌, ◌≤ℤ◌, true, take, list_all}
use Rattle.px_num.specs.Forms.{IsInHalfRange}
use Rattle.px_prune.proofs.Words.{le_z, value_at}
use Rattle.px_prune.proofs.bounds.furthest_front.Given as goal

abbrev pub invariant-loop-face : goal.invariant-loop-face
invariant-loop-face l = record {
  range : IsInHalfRange l.found;
  before : (x y value : ℕ) → list_all (λ f. le_z (value_at f.plane x y) (pos value)) (take l.face-index l.fronts) ≡ true
      → value_at l.found x y ≤ℤ pos value;
}

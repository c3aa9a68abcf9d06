use Rattle.px_num.proofs.Basics.{ℕ, pos, ◌≡◌, ◌<◌, ◌<ℤ◌, true, take, list_all}
use Rattle.px_num.specs.Forms.{IsInHalfRange}
use Rattle.px_prune.proofs.Words.{lt_z, value_at}
use Rattle.px_prune.proofs.bounds.nearest_back.Given as goal

abbrev pub invariant-loop-face : goal.invariant-loop-face
invariant-loop-face l = record {
  range : IsInHalfRange l.found;
  behind : (x y value : ℕ) → value < l.end
      → list_all (λ f. lt_z (pos value) (value_at f.plane x y)) (take l.face-index l.backs) ≡ true
      → pos value <ℤ value_at l.found x y;
}

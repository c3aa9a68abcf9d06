use Rattle.px_num.proofs.Basics.{ℕ, ◌≡◌, ◌<◌, length, slice_index_or, None}
use Rattle.px_prune.specs.Bounding.{IsBoundingBox}
use Rattle.px_prune.proofs.bounds.boxes_of.Given as goal

abbrev pub invariant-loop-solid : goal.invariant-loop-solid
invariant-loop-solid l = record {
  count : length l.boxes.items ≡ l.solid;
  boxes : (q : ℕ) → q < l.solid → IsBoundingBox l.scene q (slice_index_or l.boxes.items q None);
}

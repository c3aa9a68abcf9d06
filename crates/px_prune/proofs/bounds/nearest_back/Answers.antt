use Rattle.px_num.proofs.Basics.{arith, ints}
use Rattle.px_model.proofs.PlaneLaws.{half_range}
use Rattle.px_prune.proofs.ReachLemmas.{all_more, lt_of_test}
use Rattle.px_prune.proofs.bounds.nearest_back.Goals.{then-value, else-value}
use Rattle.px_prune.proofs.bounds.nearest_back.Goals as goal

pub loop-face-preserved : goal.loop-face-preserved
loop-face-preserved c = elim c.if-value.branch [
  | then-value w ↦ rw w.found-is (record {
    range = half_range _ (c.requires.planes c.loop-face.face-index _ c.loop-face-test.true);
    behind = λ x y v low all. lt_of_test _ _ (all_more _ _ c.loop-face.face-index _ c.loop-face-test.true all).1;
  })
  | else-value w ↦ grind (arith, ints, all_more)
]

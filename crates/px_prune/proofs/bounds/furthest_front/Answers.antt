use Rattle.px_num.proofs.Basics.{arith, ints}
use Rattle.px_model.proofs.PlaneLaws.{half_range}
use Rattle.px_prune.proofs.ReachLemmas.{all_more, le_of_test}
use Rattle.px_prune.proofs.bounds.furthest_front.Goals.{then-value, else-value}
use Rattle.px_prune.proofs.bounds.furthest_front.Goals as goal

pub loop-face-preserved : goal.loop-face-preserved
loop-face-preserved c = elim c.if-value.branch [
  | then-value w ↦ rw w.found-is (record {
    range = half_range _ (c.requires c.loop-face.face-index _ c.loop-face-test.true);
    before = λ x y v all. le_of_test _ _ (all_more _ _ c.loop-face.face-index _ c.loop-face-test.true all).1;
  })
  | else-value w ↦ grind (arith, ints, all_more)
]

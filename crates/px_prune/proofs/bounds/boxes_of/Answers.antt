use Rattle.px_num.proofs.Basics.{arith}
use Rattle.px_normal.specs.Live.{boxes_in}
use Rattle.px_prune.proofs.BoundingLemmas.{bounding_boxes}
use Rattle.px_prune.proofs.PictureLemmas.{all_boxes, next_box}
use Rattle.px_prune.proofs.bounds.boxes_of.Goals as goal

pub loop-solid-preserved : goal.loop-solid-preserved
loop-solid-preserved c = record {
  count = grind arith;
  boxes = next_box c.args.scene.now _ _ c.box_of.result c.loop-solid.solid c.loop-solid.invariant.count
      c.in_ok-push.ensures.items c.loop-solid.invariant.boxes c.box_of.ensures.least;
}

pub returns-clause-boxes : goal.returns-clause-boxes
returns-clause-boxes c = all_boxes c.args.scene.now c.loop-solid.boxes.items (grind arith)
    (λ q lt. c.loop-solid.invariant.boxes q (grind arith))

pub returns-clause-all : goal.returns-clause-all
returns-clause-all c = bounding_boxes c.args.scene.now (boxes_in c.loop-solid.boxes.items) (returns-clause-boxes c)

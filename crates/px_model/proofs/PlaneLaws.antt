-- The planes of a solid are in the ranges of forms that the layers above take.
use Rattle.px_num.proofs.Basics.{arith}
use Rattle.px_num.specs.declared.linear.Linear.{Linear}
use Rattle.px_num.specs.Forms.{IsInHalfRange, IsInTreeRange}
use Rattle.px_num.proofs.FormLaws.{wider}
use Rattle.px_model.specs.Scenes.{IsPlane}

pub plane_range : (p : Linear) → IsPlane p → IsInTreeRange p
plane_range p h = grind (arith, wider)

pub half_range : (p : Linear) → IsPlane p → IsInHalfRange p
half_range p h = grind (arith, wider)

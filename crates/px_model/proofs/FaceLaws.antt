-- The face numbers of solids one after another.
use Rattle.px_num.proofs.Basics.{◌≡◌, ◌+◌, [], ◌∷◌, List, arith, sum_by-append}
use Rattle.px_model.specs.Scenes.{faces_of, SolidView, faces_in}

pub faces_of-cons : (q : SolidView) (qs : List SolidView) → faces_of (q ∷ qs) ≡ faces_in q + faces_of qs
faces_of-cons q qs = omega (arith, sum_by-append faces_in (q ∷ []) qs)

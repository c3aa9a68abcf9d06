use Rattle.px_num.proofs.Basics.{rules}
use Rattle.px_model.proofs.SolidLemmas.{faces_pushed}
use Rattle.px_model.proofs.solid.push_face.Goals as goal

pub returns-clause-are : goal.returns-clause-are
returns-clause-are c =
    rw c.in_ok-push.ensures.items
    (faces_pushed _ _ _ c.requires.are c.requires.room c.requires.plane
    (record { red = search rules; green = search rules; blue = search rules }) c.requires.near c.requires.order)

-- The first word of a line.
use Rattle.px_num.proofs.Basics.{◌≡◌, ℕ, ◌<◌, List, [], ◌∷◌, length, get_or, ap, arith}
use Rattle.px_text.specs.Text.{Words}
use Rattle.px_c.specs.FaceAnswers.{begins_face, has_face}

pub first_word : (ws : Words) (w : List ℕ) → 0 < length ws → w ≡ get_or ws 0 w → begins_face w ≡ has_face ws
first_word [] w some is = absurd (omega (arith, some))
first_word (v ∷ ws) w some is = ap begins_face is

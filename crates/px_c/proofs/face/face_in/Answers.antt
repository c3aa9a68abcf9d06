use Rattle.px_num.proofs.Basics.{◌≡◌, ◌∙◌, Some, ap, map, subst}
use Rattle.px_text.proofs.LineLaws.{worded_is}
use Rattle.px_text.specs.Text.{words_of}
use Rattle.px_c.specs.FaceAnswers.{known_face}
use Rattle.px_c.proofs.face.face_in.Goals as goal

pub returns-in-Ok-clause-face : goal.returns-in-Ok-clause-face
returns-in-Ok-clause-face c = λ ok.
    subst (λ lines. known_face lines c.args.scene.now c.args.number ≡ Some c.face_among.new.face)
    (ap (map (λ l. words_of l.now)) c.as_slice.ensures.value
    ∙ worded_is c.in-Ok.lines.items c.args.text.now c.in-Ok.ensures.lines)
    (c.face_among.ensures.face ok)

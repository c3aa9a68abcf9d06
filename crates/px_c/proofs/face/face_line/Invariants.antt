use Rattle.px_num.proofs.Basics.{◌≡◌, ◌+◌, ◌-◌, drop, get_or, map}
use Rattle.px_text.specs.Text.{words_of}
use Rattle.px_c.specs.FaceAnswers.{face_line, face_lines}
use Rattle.px_c.proofs.face.face_line.Given as goal

-- the rest is to be found among the lines that remain
abbrev pub invariant-loop-i : goal.invariant-loop-i
invariant-loop-i l =
    get_or (face_lines (map (λ l. words_of l.now) (drop l.i l.lines)) (l.i + 1)) (l.left - 1) 0
    ≡ face_line (map (λ l. words_of l.now) l.lines) l.number

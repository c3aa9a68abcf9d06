use Rattle.px_num.proofs.Basics.{rules, ◌==◌, [], arith, refl, ap, ◌∙◌, before_first, YieldsList-at}
use Rattle.px_num.proofs.Basics.{YieldsList-end, YieldsList-turn, YieldsList-from_filter, YieldsList-from_slice_split}
use Rattle.px_text.specs.Text.{is_blank, is_some_byte, words_of}
use Rattle.px_c.specs.FaceAnswers.{has_face}
use Rattle.px_c.proofs.FaceLemmas.{first_word}
use Rattle.px_c.proofs.face.has_face.Goals as goal

pub returns-in-Some : goal.returns-in-Some
returns-in-Some c =
    let turn = YieldsList-turn
    (YieldsList-from_filter _ is_some_byte
    (YieldsList-at c.filter-words.ensures.source
    (YieldsList-from_slice_split _ is_blank (before_first (λ b. b == 35) c.args.line.now) (cc) (cc) (grind arith)
    (λ x b q k. search rules)))
    c.filter-words.ensures.closure (λ x b q k. search rules)) [] _ refl _ _ _ c.in-Some.is c.next.ensures.steps in
    c.begins_face.ensures ∙ first_word (words_of c.args.line.now) c.in-Some.word.now turn.0 turn.1

pub returns-in-None : goal.returns-in-None
returns-in-None c =
    let end = YieldsList-end
    (YieldsList-from_filter _ is_some_byte
    (YieldsList-at c.filter-words.ensures.source
    (YieldsList-from_slice_split _ is_blank (before_first (λ b. b == 35) c.args.line.now) (cc) (cc) (grind arith)
    (λ x b q k. search rules)))
    c.filter-words.ensures.closure (λ x b q k. search rules)) [] _ refl _ _ c.in-None.is c.next.ensures.steps in
    ap has_face end.0

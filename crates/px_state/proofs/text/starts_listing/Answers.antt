use Rattle.px_state.proofs.Cited.{[], ap, arith, before_first, is_blank, is_some_byte, refl, rules, Some}
use Rattle.px_state.proofs.Cited.{starts_listing, words_of, YieldsList-at, YieldsList-end, YieldsList-from_filter}
use Rattle.px_state.proofs.Cited.{YieldsList-from_slice_split, YieldsList-turn, ◌==◌, ◌∙◌}
use Rattle.px_state.proofs.WordLemmas.{first_word}
use Rattle.px_state.proofs.text.starts_listing.Goals as goal

pub returns-in-Some : goal.returns-in-Some
returns-in-Some c =
    let turn = YieldsList-turn
    (YieldsList-from_filter _ is_some_byte
    (YieldsList-at c.filter-words.ensures.source
    (YieldsList-from_slice_split _ is_blank (before_first (λ b. b == 35) c.args.line.now) (cc) (cc) (grind arith)
    (λ x b q k. search rules)))
    c.filter-words.ensures.closure (λ x b q k. search rules)) [] _ refl _ _ _ c.in-Some.is c.next.ensures.steps in
    ap (λ b. Some b) c.is_list_word.ensures ∙ first_word (words_of c.args.line.now) c.in-Some.word.now turn.0 turn.1

pub returns-in-None : goal.returns-in-None
returns-in-None c =
    let end = YieldsList-end
    (YieldsList-from_filter _ is_some_byte
    (YieldsList-at c.filter-words.ensures.source
    (YieldsList-from_slice_split _ is_blank (before_first (λ b. b == 35) c.args.line.now) (cc) (cc) (grind arith)
    (λ x b q k. search rules)))
    c.filter-words.ensures.closure (λ x b q k. search rules)) [] _ refl _ _ c.in-None.is c.next.ensures.steps in
    ap starts_listing end.0

use Rattle.px_num.proofs.Basics.{rules, arith, ap, ◌==◌, ◌∙◌, YieldsList-at, YieldsList-end, YieldsList-from_filter}
use Rattle.px_num.proofs.Basics.{YieldsList-from_slice_split, before_first}
use Rattle.px_shadow.proofs.Words.{is_blank, is_some_byte, said_of, words_of}
use Rattle.px_shadow.proofs.light.light_of.Goals as goal

pub returns : goal.returns
returns c =
    let ss = c.args.scene.now.solids in
    let all =
    (YieldsList-end
    (YieldsList-at c.into_iter-word-iterator.ensures.into_iter_gives
    (YieldsList-from_filter _ is_some_byte
    (YieldsList-from_slice_split _ is_blank (before_first (λ b. b == 35) c.args.line.now) (cc) (cc) (grind arith)
    (λ x b q k. search rules))
    c.filter-word-items.ensures.closure (λ x b q k. search rules)))
    c.loop-word.yielded _ c.loop-word.yielded_by _ _ c.in-None.is c.next.ensures.steps).0 in
    c.light.ensures ss (words_of c.args.line.now) (c.loop-word.invariant ∙ ap (said_of ss) all)

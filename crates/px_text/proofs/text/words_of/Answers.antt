use Rattle.px_num.proofs.Basics.{rules, arith, ◌==◌, YieldsList-at, YieldsList-end, YieldsList-from_filter}
use Rattle.px_num.proofs.Basics.{YieldsList-from_slice_split, before_first}
use Rattle.px_text.specs.Text.{is_blank, is_some_byte}
use Rattle.px_text.proofs.text.words_of.Goals as goal

pub returns : goal.returns
returns c =
    rw (c.loop-word.invariant)
    (YieldsList-end
    (YieldsList-at c.into_iter-word-iterator.ensures.into_iter_gives
    (YieldsList-from_filter _ is_some_byte
    (YieldsList-from_slice_split _ is_blank (before_first (λ b. b == 35) c.args.line.now) (cc) (cc) (grind arith)
    (λ x b q k. search rules))
    c.filter-word-items.ensures.closure (λ x b q k. search rules)))
    c.loop-word.yielded _ c.loop-word.yielded_by _ _ c.in-None.is c.next.ensures.steps).0

use Rattle.px_num.proofs.Basics.{rules, ◌≡◌, arith, length, ap, nat_tests, YieldsList-at, YieldsList-end}
use Rattle.px_num.proofs.Basics.{YieldsList-turn, YieldsList-from_filter, YieldsList-from_slice_split}
use Rattle.px_text.specs.Text.{is_blank, is_some_byte}
use Rattle.px_text.proofs.few.few_words.Goals as goal

pub returns-then-is_full-clause-many : goal.returns-then-is_full-clause-many
returns-then-is_full-clause-many c =
    let turn = YieldsList-turn
    (YieldsList-at c.into_iter-word-iterator.ensures.into_iter_gives
    (YieldsList-from_filter _ is_some_byte
    (YieldsList-from_slice_split _ is_blank c.args.bytes.now (cc) (cc) (grind arith) (λ x b q k. search rules))
    c.filter-word-items.ensures.closure (λ x b q k. search rules)))
    c.loop-word.yielded _ c.loop-word.yielded_by _ _ _ c.in-Some.is c.next.ensures.steps in
    let full : length c.loop-word.words.items ≡ 3 = grind (arith, nat_tests) in
    omega (arith, turn.0, ap length c.loop-word.invariant, full)

pub returns-clause-few : goal.returns-clause-few
returns-clause-few c =
    rw (c.loop-word.invariant)
    (YieldsList-end
    (YieldsList-at c.into_iter-word-iterator.ensures.into_iter_gives
    (YieldsList-from_filter _ is_some_byte
    (YieldsList-from_slice_split _ is_blank c.args.bytes.now (cc) (cc) (grind arith) (λ x b q k. search rules))
    c.filter-word-items.ensures.closure (λ x b q k. search rules)))
    c.loop-word.yielded _ c.loop-word.yielded_by _ _ c.in-None.is c.next.ensures.steps).0

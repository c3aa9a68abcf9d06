use Rattle.px_num.proofs.Basics.{◌∙◌, sym, arith, subst, to_z, of_z, w64, ◌^◌, All, ints}
use Rattle.px_listing.proofs.Words.{IsWithin, now_of}
use Rattle.px_listing.proofs.WordLemmas.{are_small, read_more, read_whole}
use Rattle.px_listing.proofs.judge.numbers_of.Goals as goal

pub loop-word-preserved : goal.loop-word-preserved
loop-word-preserved c =
    read_more c.args.words.now _ _ c.loop-word.word-index _ c.in-Some.number (to_z w64 (of_z w64 c.in-Some.number))
    c.loop-word.invariant c.loop-word-test.true (sym c.number_of.ensures ∙ c.in-Some.is)
    (λ small. omega (arith, ints, small)) c.push.ensures.items

pub returns-clause-small : goal.returns-clause-small
returns-clause-small c =
    let whole =
    read_whole c.args.words.now _ c.loop-word.word-index c.loop-word.invariant (omega (arith, c.loop-word-test.false))
    in
    subst (All (IsWithin (10 ^ 18))) (sym whole.1) (are_small (now_of c.args.words.now))

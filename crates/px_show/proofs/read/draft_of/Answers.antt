use Rattle.px_num.proofs.Basics.{arith, ◌≡◌, ◌∙◌, Err, Some, [], ap, get_or, inr, map, sym, take, nat_tests}
use Rattle.px_num.proofs.Basics.{common_steps}
use Rattle.px_show.proofs.Words.{fault_at, now_of, refused, words_among, words_here, words_of}
use Rattle.px_show.proofs.JudgedLaws.{first_is, good_next, one_more}
use Rattle.px_show.proofs.read.draft_of.Goals as goal

pub returns-in-Err-Bad-clause-err : goal.returns-in-Err-Bad-clause-err
returns-in-Err-Bad-clause-err g c =
    let lines = map (λ m. words_of m.now) c.args.lines.now in
    let words = now_of c.in_ok-line.line.words.items in
    let before = take c.loop-i.i lines in
    let here : get_or lines c.loop-i.i [] ≡ words =
    words_here c.args.lines.now c.loop-i.i _ c.loop-i-test.true ∙ sym c.in_ok-line.ensures.words in
    let first = first_is (g.D.Drafting.judge c.args.draft) lines c.loop-i.i words c.in-Err-Bad.fault
    c.loop-i.invariant.judged (words_among _ _ c.loop-i-test.true) here (
    ap (λ judge. judge before words) (sym c.loop-i.invariant.judges)
    ∙ c.in-Err-Bad.ensures.bad before c.loop-i.invariant.says c.in-Err-Bad.fault (ap Err c.in-Err-Bad.field-0-is)
    ) in
    let found = c.fault_at.ensures
    ∙ (ap (fault_at c.in_ok-line.line.number) c.in-Err-Bad.fault-is
    ∙ ap (λ number. fault_at number c.in-Err-Bad.fault) c.in_ok-line.ensures.number) in
    inr (λ ended count. ap (λ bad. refused bad ended count) first ∙ ap Some (sym found))

pub loop-i-preserved : goal.loop-i-preserved
loop-i-preserved g c = grind (arith, nat_tests, common_steps, words_here, words_among, one_more, good_next)

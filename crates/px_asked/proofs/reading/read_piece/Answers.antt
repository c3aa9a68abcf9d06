use Rattle.px_num.proofs.Basics.{nat_tests, arith, common_steps}
use Rattle.px_io.proofs.ToldLaws.{consumes_both, on_err}
use Rattle.px_asked.proofs.AskLaws.{read_gave}
use Rattle.px_asked.proofs.ListenLemmas.{heard_more, listened_more}
use Rattle.px_asked.proofs.ReadLemmas.{on_err_consumed}
use Rattle.px_asked.proofs.reading.read_piece.Goals as goal

pub returns-in_err-extend_from_slice-clause-err : goal.returns-in_err-extend_from_slice-clause-err
returns-in_err-extend_from_slice-clause-err g c begun heard =
    grind (arith, nat_tests, common_steps, on_err_consumed, consumes_both)

pub returns-in_err-count-clause-listened : goal.returns-in_err-count-clause-listened
returns-in_err-count-clause-listened g c begun waits =
    on_err _ (listened_more _ _ _ _ _ _ _ _ waits c.ask.ensures.noted (read_gave _ _ _ _ c.ask.ensures.bytes))

pub returns-in_err-extend_from_slice-clause-listened : goal.returns-in_err-extend_from_slice-clause-listened
returns-in_err-extend_from_slice-clause-listened g c begun waits =
    on_err _ (listened_more _ _ _ _ _ _ _ _ waits c.ask.ensures.noted (read_gave _ _ _ _ c.ask.ensures.bytes))

pub returns-clause-heard : goal.returns-clause-heard
returns-clause-heard g c begun waits =
    rw c.in_ok-extend_from_slice.ensures.items
    (heard_more _ _ _ _ _ _ _ _ waits c.in_ok-count.ensures.noted c.in_ok-count.ensures.bytes.0)

use Rattle.px_num.proofs.Basics.{nat_tests, arith, common_steps}
use Rattle.px_io.proofs.ToldLaws.{consumes_both}
use Rattle.px_io.proofs.ReadingLemmas.{on_err_consumed}
use Rattle.px_io.proofs.reading.read_piece.Goals as goal

pub returns-in_err-extend_from_slice-clause-err : goal.returns-in_err-extend_from_slice-clause-err
returns-in_err-extend_from_slice-clause-err g c start before =
    grind (arith, nat_tests, common_steps, on_err_consumed, consumes_both)

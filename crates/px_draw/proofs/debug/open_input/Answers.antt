use Rattle.px_num.proofs.Basics.{err_from_is_err_and}
use Rattle.px_draw.proofs.debug.open_input.Goals as goal

pub returns-in_err-opening-clause-failed : goal.returns-in_err-opening-clause-failed
returns-in_err-opening-clause-failed g c =
    let p = err_from_is_err_and c.from_residual.result c.from_residual.ensures.1 in
    rw (p.1, p.2) c.in_err-opening.ensures.failed

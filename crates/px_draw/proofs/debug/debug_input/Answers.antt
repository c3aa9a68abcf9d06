use Rattle.px_num.proofs.Basics.{Err, ap, inl, inr, refl, err_from_is_err_and}
use Rattle.px_io.proofs.ToldLaws.{stays}
use Rattle.px_commands.proofs.RunLaws.{still}
use Rattle.px_draw.proofs.AskingLemmas.{answers_sat}
use Rattle.px_draw.proofs.PartLemmas.{scene_refuses}
use Rattle.px_draw.proofs.ServedLemmas.{performs_closed, performs_open, performs_sits, took_sat}
use Rattle.px_draw.proofs.debug.debug_input.Goals as goal

pub returns-in_err-opening-clause-performs : goal.returns-in_err-opening-clause-performs
returns-in_err-opening-clause-performs g c =
    let p = err_from_is_err_and c.from_residual.result c.from_residual.ensures.1 in
    rw (p.1, p.2) (performs_open _ _ _ _ (λ is. c.in_err-opening.ensures.failed (ap Err is))
    c.in_err-opening.ensures.most (still _ _ refl refl))

pub returns-in_err-scene-clause-performs : goal.returns-in_err-scene-clause-performs
returns-in_err-scene-clause-performs g c =
    let p = err_from_is_err_and c.from_residual-in_err-scene.result c.from_residual-in_err-scene.ensures.1 in
    rw (p.1, p.2) (performs_closed _ _ c.in_ok-opening.opening _ _ c.in_ok-opening.ensures.opens
    (c.in_err-scene.ensures.err _) (stays _) (inl refl))

pub returns-in_err-session-clause-performs : goal.returns-in_err-session-clause-performs
returns-in_err-session-clause-performs g c =
    let p = err_from_is_err_and c.from_residual-in_err-session.result c.from_residual-in_err-session.ensures.1 in
    let opens = c.in_ok-opening.ensures.opens in
    let is = c.in_ok-scene.ensures.ok in
    rw (p.1, p.2) (performs_closed _ _ c.in_ok-opening.opening _ _ opens
    (scene_refuses _ _ _ _ _ opens.opening is c.in_err-session.ensures.err) (stays _)
    (inr (is.good, rw is.scene at c.in_err-session.ensures.array)))

pub returns-clause-performs : goal.returns-clause-performs
returns-clause-performs g c =
    let opens = c.in_ok-opening.ensures.opens in
    performs_sits c.laws_of_sessions.ensures.quit _ _ _ c.in_ok-opening.opening _ _ _ _ _ _ _ _ _ _ _
    (record { opening = opens.opening; is = c.in_ok-scene.ensures.ok; draws = c.in_ok-session.ensures.draws }) opens
    c.result_of.ensures.result c.in_ok-session.ensures.session c.in_ok-session.ensures.work c.answer_rest.ensures.fits
    c.answer_rest.ensures.sits

pub returns-clause-took : goal.returns-clause-took
returns-clause-took g c =
    took_sat _ _ c.in_ok-opening.opening _ _ _ _ c.in_ok-opening.ensures.opens c.answer_rest.ensures.sits

pub returns-clause-in_time : goal.returns-clause-in_time
returns-clause-in_time g c =
    let opens = c.in_ok-opening.ensures.opens in
    answers_sat _ _ c.in_ok-opening.opening _ _ _ _ _ _
    (record { opening = opens.opening; is = c.in_ok-scene.ensures.ok; draws = c.in_ok-session.ensures.draws }) opens
    c.in_ok-opening.ensures.listens c.in_ok-session.ensures.session c.answer_rest.ensures.sits

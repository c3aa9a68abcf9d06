use Rattle.px_num.proofs.Basics.{◌≤◌, ◌-◌, arith, ap, drop, length, refl, take, err_from_is_err_and}
use Rattle.px_num.proofs.Basics.{length-take, take-append-le}
use Rattle.px_asked.proofs.AskLaws.{read_gave}
use Rattle.px_debug.proofs.TurningLemmas.{caught_fed, prompts_ask, stopped_fault, stopped_in}
use Rattle.px_debug.proofs.serving.read_and_answer.Goals as goal

pub returns-in_default-clause-serves : goal.returns-in_default-clause-serves
returns-in_default-clause-serves g c b caught =
    stopped_fault _ b _ _ _ _ caught c.requires.some c.in_default.ensures.bytes refl c.in_default.ensures.cause.failed
    (prompts_ask _ b _ _ _ _ _ caught c.requires.some c.ask.ensures.noted (read_gave _ _ _ _ c.ask.ensures.bytes))

pub returns-in_err-answer_piece-clause-serves : goal.returns-in_err-answer_piece-clause-serves
returns-in_err-answer_piece-clause-serves g c b caught =
    let p = err_from_is_err_and c.from_residual.result c.from_residual.ensures.1 in
    let n = c.in-Ok.count in
    let buf = c.ask.new.buf in
    let room = length-take c.min-room.result c.args.piece.now in
    let bound : n ≤ length buf = omega (arith, c.in-Ok.ensures.bound) in
    let same = take-append-le n buf (drop c.min-room.result c.args.piece.now) bound in
    rw (p.1, p.2) (stopped_in _ _ b c.args.limit _ _ _ (take n buf) caught c.requires.some
    (omega (arith, length-take n buf, room, c.ask.auto.buf, c.min-room.ensures)) c.in-Ok.ensures.bytes.0
    (λ none. c.in-Ok.ensures.bytes.1 (omega (arith, ap length none, length-take n buf, bound))
    (omega (arith, c.ask.auto.buf, c.min-room.ensures, room)))
    (rw same at c.in_err-answer_piece.ensures.ended)
    (rw same at (c.in_err-answer_piece.ensures.served b.was.at _ caught.fed)) c.in-Ok.ensures.cause.calm
    c.in_err-answer_piece.ensures.cause
    (prompts_ask _ b _ _ _ _ _ caught c.requires.some c.ask.ensures.noted (read_gave _ _ _ _ c.ask.ensures.bytes)))

pub returns-clause-caught : goal.returns-clause-caught
returns-clause-caught g c b caught =
    let n = c.in-Ok.count in
    let buf = c.ask.new.buf in
    let bound : n ≤ length buf = omega (arith, c.in-Ok.ensures.bound) in
    let same = take-append-le n buf (drop c.min-room.result c.args.piece.now) bound in
    let some = rw same at c.in_ok-answer_piece.ensures.some in
    caught_fed _ b c.args.limit (c.args.limit - n) _ _ _ _ (take n buf) caught
    (omega (arith, some.1, length-take n buf, bound)) (omega (arith, some.1, length-take n buf, bound))
    c.in-Ok.ensures.noted c.in-Ok.ensures.bytes.0
    (rw same at (c.in_ok-answer_piece.ensures.fed b.was.at _ caught.fed)) c.in-Ok.ensures.cause.calm
    c.in_ok-answer_piece.ensures.calm

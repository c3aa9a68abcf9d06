use Rattle.px_num.proofs.Basics.{◌-◌, arith, length}
use Rattle.px_draw.proofs.debug.answer_rest.Goals as goal

pub returns-in-None-clause-sits : goal.returns-in-None-clause-sits
returns-in-None-clause-sits g c =
    let none = c.requires.none c.in-None.is in
    let s = c.finish_unasked.ensures.serves g.A.Array.BITS (1048577 - length c.args.opening.now.text.items)
    c.args.session.now
    (g.A.Array.view c.args.array.now).work (g.S.Asks.asks c.args.input.now) (g.S.Source.rest c.args.input.now)
    (g.S.Source.faults c.args.input.now) none.1 (omega (arith, c.requires.short c.in-None.is)) in
    rw none.0 (record { serves = s.0; idle = λ is. (s.1, s.2, none.1, c.finish_unasked.ensures.told) })

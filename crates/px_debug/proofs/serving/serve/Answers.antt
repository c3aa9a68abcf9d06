use Rattle.px_num.proofs.Basics.{inl, refl, sym, []}
use Rattle.px_asked.specs.Lines.{last_of, left, whole_lines}
use Rattle.px_debug.specs.Servings.{lines_in}
use Rattle.px_debug.proofs.FeedingLemmas.{broke_more, fed_all, fed_none}
use Rattle.px_debug.proofs.TurningLemmas.{caught_begun, served_begun}
use Rattle.px_debug.specs.Catching.{begun}
use Rattle.px_debug.specs.declared.serving.Ending.TheVariants as e
use Rattle.px_debug.proofs.serving.serve.Goals as goal

pub returns-in-Ok-More-clause-serves : goal.returns-in-Ok-More-clause-serves
returns-in-Ok-More-clause-serves g c =
    c.read_on.ensures.serves (begun _ c.args.read.now c.args.more)
    (caught_begun _ c.args.read.now c.args.more _ _ _ refl refl
    refl c.in-Ok-More.ensures.cause.calm
    (rw c.in-Ok-More.field-0-is at (c.in-Ok-More.ensures.ok _ [] (fed_none _ _ _ c.new-held.ensures))))

pub returns-in-Ok-Quit-clause-serves : goal.returns-in-Ok-Quit-clause-serves
returns-in-Ok-Quit-clause-serves g c =
    let fed = rw c.in-Ok-Quit.field-0-is at (c.in-Ok-Quit.ensures.ok _ [] (fed_none _ _ _ c.new-held.ensures)) in
    served_begun _ _ _ c.args.read.now c.args.more _ _ c.finish.ensures.result refl refl refl tt refl
    (c.finish.ensures.served _ _ _ _ (lines_in c.args.read.now) (fed_all _ _ _ _ _ fed) (sym fed.went.going))
    (rw c.in-Ok-Quit.ensures.cause.calm at c.finish.ensures.cause)

pub returns-in-Err-clause-serves : goal.returns-in-Err-clause-serves
returns-in-Err-clause-serves g c =
    let read = c.args.read.now in
    served_begun e.WriteFault e.WriteFault _ read c.args.more _ _ (inl refl) refl refl refl tt refl
    (inl (broke_more _ _ _ (whole_lines read) (last_of (left [] read))
    (c.in-Err.ensures.err _ [] (fed_none _ _ _ c.new-held.ensures)))) c.in-Err.ensures.cause.failed

use Rattle.std.proofs.Common.{arith, refl}
use Rattle.std.proofs.lemmas.Result.{err_from_is_err_and}
use Rattle.px_draw.proofs.WorkLemmas.{performs_read, performs_text, works_scene, works_text}
use Rattle.px_commands.proofs.RunLaws.{still}
use Rattle.px_draw.proofs.make.make_of_input.Goals as goal

pub returns-in_err-text-clause-performs : goal.returns-in_err-text-clause-performs
returns-in_err-text-clause-performs g c = grind (arith, err_from_is_err_and, performs_read, still)

pub returns-in_err-scene-clause-performs : goal.returns-in_err-scene-clause-performs
returns-in_err-scene-clause-performs g c =
    let p = err_from_is_err_and c.from_residual-in_err-scene.result c.from_residual-in_err-scene.ensures.1 in
    rw (p.1, p.2) (performs_text _ c.args.work _ _ _ _ c.in_ok-text.ensures.front c.in_ok-text.ensures.taken
    (works_text c.args.work _ _ _ _ _ _ c.as_slice.ensures.value c.in_err-scene.ensures.err refl refl))

pub returns-clause-performs : goal.returns-clause-performs
returns-clause-performs g c =
    performs_text _ c.args.work _ _ _ _ c.in_ok-text.ensures.front c.in_ok-text.ensures.taken
    (works_scene _ c.args.work _ _ _ _ _ _ c.as_slice.ensures.value c.in_ok-scene.ensures.ok.0
    c.in_ok-scene.ensures.ok.1
    c.make.ensures.serves c.make.ensures.array)

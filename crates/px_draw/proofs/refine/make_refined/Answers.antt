use Rattle.std.proofs.lemmas.Result.{err_from_is_err_and}
use Rattle.px_commands.specs.Outcomes.{unless_refused}
use Rattle.px_commands.proofs.StopLaws.{stop_serves}
use Rattle.px_draw.specs.Refining.{fine_refusal}
use Rattle.px_draw.proofs.MeanLemmas.{serves_refined}
use Rattle.px_draw.proofs.refine.make_refined.Goals as goal

pub returns-in_err-fine-clause-serves : goal.returns-in_err-fine-clause-serves
returns-in_err-fine-clause-serves g c =
    let p = err_from_is_err_and c.from_residual.result c.from_residual.ensures.1 in
    rw (p.1, p.2, ← c.doublings.ensures.value)
    (stop_serves _ (unless_refused (fine_refusal c.doublings.result c.args.scene.now)) _ _ c.in_err-fine.ensures.err)

pub returns-clause-serves : goal.returns-clause-serves
returns-clause-serves g c =
    serves_refined _ _ _ _ _ _ _ _ c.doublings.ensures.value c.in_ok-fine.ensures.ok.0 c.in_ok-fine.ensures.ok.1
    c.make_images.ensures.serves

use Rattle.px_num.proofs.Basics.{◌∙◌}
use Rattle.px_sample.proofs.DrawingLemmas.{sample_serves}
use Rattle.px_sample.proofs.drawing.draw_sample.Goals as goal

pub returns-clause-serves : goal.returns-clause-serves
returns-clause-serves g c =
    sample_serves _ c.args.n g.A.Array.BITS c.as_slice.result.now _ _ (c.as_slice.ensures.value
    ∙ c.in-Ok.ensures) c.measure_text.ensures.serves

use Rattle.px_sample.proofs.DrawingLemmas.{scene_serves}
use Rattle.px_sample.proofs.drawing.measure_text.Goals as goal

pub returns-clause-serves : goal.returns-clause-serves
returns-clause-serves g c =
    scene_serves _ c.args.text.now g.A.Array.BITS c.in_ok-scene.scene _ _ c.in_ok-scene.ensures.ok.0
    c.in_ok-scene.ensures.ok.1 c.measure.ensures.serves

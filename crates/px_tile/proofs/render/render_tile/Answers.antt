use Rattle.px_num.proofs.Basics.{◌∙◌}
use Rattle.px_control.proofs.GridLaws.{covers_the_picture}
use Rattle.px_tile.proofs.render.render_tile.Goals as goal

pub put_tile-requires-clause-covers : goal.put_tile-requires-clause-covers
put_tile-requires-clause-covers g c =
    let same = c.finish.ensures.scene ∙ c.in_ok-job.ensures.job.0 in
    let at = rw same at c.finish.ensures.at in
    covers_the_picture _ _ _ _ c.laws_of_scenes.ensures.scene at

use Rattle.px_c.proofs.WindowLemmas.{placed}
use Rattle.px_c.proofs.window.window_at.Goals as goal

pub returns-in-Ok-clause-depths : goal.returns-in-Ok-clause-depths
returns-in-Ok-clause-depths c = λ ok.
    placed c.laws_of_tiles.ensures (λ sight. sight.depth) c.args.scene.now _ _ _ _ _ _ _ c.in-Ok.ensures.ok
    (c.render_scene.ensures.depths ok)

pub returns-in-Ok-clause-faces : goal.returns-in-Ok-clause-faces
returns-in-Ok-clause-faces c = λ ok.
    placed c.laws_of_tiles.ensures (λ sight. sight.face) c.args.scene.now _ _ _ _ _ _ _ c.in-Ok.ensures.ok
    (c.render_scene.ensures.faces ok)

use Rattle.px_num.proofs.Basics.{arith}
use Rattle.px_control.specs.Program.{total}
use Rattle.px_control.proofs.GridLaws.{covers_the_picture}
use Rattle.px_sample.proofs.drawing.shown_at.Goals as goal

pub stored-depth-requires-clause-pixel : goal.stored-depth-requires-clause-pixel
stored-depth-requires-clause-pixel g c =
    let covers = covers_the_picture g.A.Array.BITS c.args.scene.now (total c.args.scene.now) _
    c.laws_of_scenes.ensures.scene c.requires.drawn.at in
    record {
      is_open = covers.is_open;
      column = omega (arith, covers.columns, c.requires.x);
      row = omega (arith, covers.rows, c.requires.y);
    }

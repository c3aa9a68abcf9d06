use Rattle.px_num.proofs.Basics.{◌+◌, arith, refl}
use Rattle.px_frame.proofs.RowLaws.{other_row}
use Rattle.px_tile.proofs.FoundLemmas.{rows_more}
use Rattle.px_tile.proofs.render.put_tile.Goals as goal

pub loop-y-preserved : goal.loop-y-preserved
loop-y-preserved g c =
    let state = (g.A.Array.view c.args.array.now).device.state in
    let y = c.loop-y.y in
    record {
      puts = rows_more c.args.scene.now y c.args.x0 c.args.y0 c.args.width _ c.args.found.now c.loop-y.found _
          c.loop-y.invariant.puts c.put_row.ensures refl c.requires.columns;
      depths = λ further. other_row _ _ state c.args.scene.now.width y (y + 1) (omega (arith, further))
          (rw c.width.ensures.value at c.enter_row.ensures);
      faces = λ further. other_row _ _ state c.args.scene.now.width y (y + 1) (omega (arith, further))
          (rw c.width-in-loop-y.ensures.value at c.enter_row-in-loop-y.ensures);
    }

use Rattle.px_num.proofs.Basics.{◌≢◌, ◌%◌}
use Rattle.px_frame.specs.Strips.{HoldsRow}
use Rattle.px_tile.specs.PutRows.{PutsRows}
use Rattle.px_tile.proofs.render.put_tile.Given as goal

abbrev pub invariant-loop-y : goal.invariant-loop-y
invariant-loop-y g l =
    let state = (g.A.Array.view l.array).device.state
    in record {
      puts : PutsRows l.scene l.y (record { left = l.x0; top = l.y0 }) l.width l.fn.found l.found;
      depths : l.y % 8 ≢ 0 → HoldsRow l.depths l.depth state l.scene.width l.y;
      faces : l.y % 8 ≢ 0 → HoldsRow l.faces l.face state l.scene.width l.y;
    }

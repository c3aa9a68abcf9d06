use Rattle.px_tile.specs.PutRows.{PutsRow}
use Rattle.px_tile.proofs.render.put_row.Given as goal

abbrev pub invariant-loop-x : goal.invariant-loop-x
invariant-loop-x l = PutsRow l.scene l.x l.y l.start l.fn.found l.found

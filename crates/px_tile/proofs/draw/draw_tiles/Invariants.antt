use Rattle.px_tile.specs.Drawn.{HasTiles, IsLeft}
use Rattle.px_tile.proofs.draw.draw_tiles.Given as goal

abbrev pub invariant-loop-tile : goal.invariant-loop-tile
invariant-loop-tile g l = record {
  tiles : HasTiles l.scene l.width l.height l.tile l.found.items;
  left : IsLeft g.A.Array.BITS l.scene l.width l.height l.tile (g.A.Array.view l.fn.array)
      (g.A.Array.view l.array);
}

use Rattle.px_tile.proofs.TileLemmas.{tile_shows}
use Rattle.px_tile.proofs.law.laws_of_tiles.Goals as goal

pub returns : goal.returns
returns c = tile_shows

use Rattle.px_listing.proofs.MemoryLemmas.{show_the_played}
use Rattle.px_listing.proofs.PassesLemmas.{passes_read_back, scenes_grid, show_the_picture}
use Rattle.px_listing.proofs.law.laws_of_playing.Goals as goal

pub returns : goal.returns
returns c = record {
  printed = show_the_played;
  passes = passes_read_back;
  picture = show_the_picture;
  grid = scenes_grid;
}

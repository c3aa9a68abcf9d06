use Rattle.px_draw.proofs.ListedLemmas.{done_shown, passes_played, passes_shown}
use Rattle.px_draw.proofs.law.laws_of_listed_scenes.Goals as goal

pub returns : goal.returns
returns c = record { played = passes_played; picture = passes_shown; done = done_shown }

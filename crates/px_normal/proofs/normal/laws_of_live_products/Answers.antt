use Rattle.px_normal.proofs.LiveLemmas.{live_sides, live_places}
use Rattle.px_normal.proofs.ShorterLemmas.{all_shorter, never_crowded}
use Rattle.px_normal.proofs.normal.laws_of_live_products.Goals as goal

pub returns-clause-live : goal.returns-clause-live
returns-clause-live c boxes = record { sides = live_sides boxes; places = live_places boxes }

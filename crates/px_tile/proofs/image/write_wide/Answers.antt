use Rattle.px_num.proofs.Basics.{refl}
use Rattle.px_tile.proofs.ImageLemmas.{front_then}
use Rattle.px_tile.proofs.image.write_wide.Goals as goal

pub returns-clause-err : goal.returns-clause-err
returns-clause-err g c = front_then _ _ _ _ _ _ _ refl c.in_ok-write_part.ensures.ok c.write_part-2.ensures.err

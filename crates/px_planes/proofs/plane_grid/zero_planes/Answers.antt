use Rattle.px_num.proofs.Basics.{◌+◌, ◌/◌, ◌^◌, ap}
use Rattle.px_plane_tree.proofs.LevelLemmas.{power_some}
use Rattle.px_planes.proofs.GridLemmas.{whole_words, zero_pixels}
use Rattle.px_planes.proofs.plane_grid.zero_planes.Goals as goal

pub returns-clause-pixels : goal.returns-clause-pixels
returns-clause-pixels g c =
    zero_pixels g.row.N _ _ (2 ^ (c.args.nx + c.args.ny)) c.in_ok-planes.planes (power_some (c.args.nx + c.args.ny))
    (ap (λ n. (n + 63) / 64) c.power-pixels.ensures) (whole_words (c.args.nx + c.args.ny))
    (rw c.power-pixels.ensures at c.full_word.ensures) c.in_ok-planes.ensures

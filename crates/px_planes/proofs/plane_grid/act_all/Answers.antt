use Rattle.px_planes.proofs.GridLemmas.{acted_law, still_pixels}
use Rattle.px_planes.proofs.plane_grid.act_all.Goals as goal

pub returns-clause-acted : goal.returns-clause-acted
returns-clause-acted g c =
    acted_law g.row.N c.args.act c.args.tree.now c.outputs.result.now c.args.planes.now c.act_planes.new.planes
    (rw c.size-nx.ensures.size at c.outputs.ensures.words) (rw c.size-nx.ensures.size at c.outputs.ensures.bits)
    c.requires.pixels c.act_planes.ensures

pub returns-clause-pixels : goal.returns-clause-pixels
returns-clause-pixels g c =
    still_pixels g.row.N c.args.act c.args.tree.now c.outputs.result.now c.args.planes.now c.act_planes.new.planes
    (rw c.size-nx.ensures.size at c.outputs.ensures.words) (rw c.size-nx.ensures.size at c.outputs.ensures.bits)
    c.requires.pixels c.act_planes.ensures

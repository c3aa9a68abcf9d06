use Rattle.px_num.proofs.Basics.{arith, ◌≡◌, ◌+◌}
use Rattle.px_asm.specs.Micros.{cycles}
use Rattle.px_planes.proofs.OperatedLemmas.{operated_law}
use Rattle.px_planes.proofs.plane_grid.PlaneGridOperatingGrid.try_operate.Goals as goal

pub returns-clause-operated : goal.returns-clause-operated
returns-clause-operated g c = λ _.
    let tree = c.self.inside.tree in
    let op = c.args.m.now in
    let done = rw (c.size-nx.ensures.size) at c.operate_planes-self-inside.ensures in
    let count : c.self.inside.clocks + c.from.result ≡ c.self.inside.clocks + cycles op tree.nx tree.ny = grind arith in
    rw (← c.self.view_is) (operated_law g.row.N op tree c.self.inside.planes c.operate_planes-self-inside.new.planes
    c.self.inside.clocks
    (c.self.inside.clocks + c.from.result) done.pixels done.each done.carry done.latch count)

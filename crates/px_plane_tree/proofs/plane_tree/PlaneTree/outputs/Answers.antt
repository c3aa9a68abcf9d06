use Rattle.px_num.proofs.Basics.{arith}
use Rattle.px_plane_tree.proofs.OutputLemmas.{large_fits}
use Rattle.px_plane_tree.proofs.plane_tree.PlaneTree.outputs.Goals as goal

pub part-requires-else-level-lt6-clause-to : goal.part-requires-else-level-lt6-clause-to
part-requires-else-level-lt6-clause-to c =
    rw c.deref-else-level-lt6.ensures.value (large_fits c.args.level c.self.inside.nx c.self.inside.ny
    c.power-at.result _ (omega arith) (rw (← c.self.view_is) at c.requires.in_tree) c.power-at.ensures
    c.self.invariant.tree.enough)

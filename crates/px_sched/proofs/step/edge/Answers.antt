use Rattle.px_num.proofs.Basics.{arith}
use Rattle.px_sched.proofs.Words.{depths_of, edge_count, edges, end_of, solid_of}
use Rattle.px_sched.proofs.StepLemmas.{sign_of_edge}
use Rattle.px_sched.proofs.step.edge.Goals as goal

pub returns : goal.returns
returns c =
    let end = end_of (depths_of c.args.scene.now) in
    let s = solid_of c.args.scene.now c.args.solid in
    λ head tail at is. sign_of_edge head tail (edges s end c.args.face) (edge_count s) at c.args.place _
    (c.laws_of_edges.ensures.count s end c.args.face c.requires.face.there) is c.requires.place (grind arith)

use Rattle.px_num.proofs.Basics.{[], ◌∷◌, ◌∙◌, arith}
use Rattle.px_sched.proofs.Words.{depths_of, load_candidate, solid_of}
use Rattle.px_sched.proofs.StepLemmas.{behind_edges}
use Rattle.px_macro.specs.declared.operation.Macro.TheVariants as m
use Rattle.px_sched.proofs.step.candidate.Goals as goal

pub returns-then-at-tail : goal.returns-then-at-tail
returns-then-at-tail c =
    c.edge.ensures (m.All ∷ []) (load_candidate c.args.layout.now (depths_of c.args.scene.now)
    (solid_of c.args.scene.now c.args.solid) c.args.face) c.args.at (grind arith)

pub returns-else-at-tail : goal.returns-else-at-tail
returns-else-at-tail c =
    c.load.ensures
    ∙ behind_edges c.args.scene.now c.args.solid c.args.face (m.All ∷ []) (load_candidate c.args.layout.now
    (depths_of c.args.scene.now) (solid_of c.args.scene.now c.args.solid) c.args.face) c.args.at _ c.requires.face.there
    (grind arith)

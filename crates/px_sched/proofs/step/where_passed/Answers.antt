use Rattle.px_num.proofs.Basics.{[], ◌∷◌, arith, true}
use Rattle.px_sched.proofs.Words.{deep_part, passed_plane}
use Rattle.px_sched.proofs.StepLemmas.{behind_edges}
use Rattle.px_macro.specs.declared.operation.Macro.TheVariants as m
use Rattle.px_sched.proofs.step.where_passed.Goals as goal

pub returns-then-at-tail : goal.returns-then-at-tail
returns-then-at-tail c =
    let l = c.args.layout.now in
    c.edge.ensures (m.All ∷ m.KeepBit l.alive true ∷ []) (m.KeepAtMost (passed_plane c.args.scene.now c.args.solid
    c.args.face c.args.further) (deep_part l l.key_t) ∷ c.args.operation ∷ []) c.args.at (grind arith)

pub returns-then-at-tail-2 : goal.returns-then-at-tail-2
returns-then-at-tail-2 c =
    let l = c.args.layout.now in
    rw (c.passed_plane.ensures, c.t_deep.ensures.field)
    (behind_edges c.args.scene.now c.args.solid c.args.face (m.All ∷ m.KeepBit l.alive true ∷ []) (m.KeepAtMost
    (passed_plane c.args.scene.now c.args.solid c.args.face c.args.further) (deep_part l l.key_t)
    ∷ c.args.operation ∷ []) c.args.at 0 c.requires.face.there (grind arith))

pub returns-else-at-tail-2 : goal.returns-else-at-tail-2
returns-else-at-tail-2 c =
    let l = c.args.layout.now in
    behind_edges c.args.scene.now c.args.solid c.args.face (m.All ∷ m.KeepBit l.alive true ∷ []) (m.KeepAtMost
    (passed_plane c.args.scene.now c.args.solid c.args.face c.args.further) (deep_part l l.key_t)
    ∷ c.args.operation ∷ []) c.args.at 1 c.requires.face.there (grind arith)

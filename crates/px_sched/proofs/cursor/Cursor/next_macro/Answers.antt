use Rattle.px_num.proofs.Basics.{◌+◌, ◌<◌, arith, length, refl, sym, ◌∙◌}
use Rattle.px_sched.proofs.Words.{layout_of, operations}
use Rattle.px_sched.proofs.StandingLemmas.{inside, operation_found, stands_along, stands_onward}
use Rattle.px_sched.proofs.cursor.Cursor.next_macro.Goals as goal

pub returns-then-self-count-clause-operation : goal.returns-then-self-count-clause-operation
returns-then-self-count-clause-operation c =
    operation_found c.args.scene.now c.args.self.now c.in-Some.step c.requires.stands
    (sym c.in-Some.is ∙ c.step.ensures) _ (rw c.requires.layout at c.operation-operation.ensures)

pub returns-else-self-count-clause-operation : goal.returns-else-self-count-clause-operation
returns-else-self-count-clause-operation c =
    operation_found c.args.scene.now c.args.self.now c.in-Some.step c.requires.stands
    (sym c.in-Some.is ∙ c.step.ensures) _ (rw c.requires.layout at c.operation-operation.ensures)

pub returns-then-self-count-clause-stands : goal.returns-then-self-count-clause-stands
returns-then-self-count-clause-stands c =
    let next = rw (c.as_slice.ensures.value, c.requires.products) at c.next-self.ensures in
    stands_onward c.args.scene.now c.args.self.now c.in-Some.step c.requires.stands
    (sym c.in-Some.is ∙ c.step.ensures) _ refl refl
    (c.count-count.ensures.count (layout_of c.args.scene.now) ∙ sym c.if-self-count.true) next.left next.stage

pub returns-else-self-count-clause-stands : goal.returns-else-self-count-clause-stands
returns-else-self-count-clause-stands c =
    let scene = c.args.scene.now in
    let here = sym c.in-Some.is ∙ c.step.ensures in
    let more : c.args.self.now.at + 1 < length (operations scene (layout_of scene) c.in-Some.step) =
    omega (
      arith,
      inside scene c.args.self.now c.in-Some.step c.requires.stands here,
      c.count-count.ensures.count (layout_of scene),
      c.if-self-count.false,
    ) in
    stands_along scene c.args.self.now c.in-Some.step c.requires.stands here _ refl refl refl more

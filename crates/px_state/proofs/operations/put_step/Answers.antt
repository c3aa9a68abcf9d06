use Rattle.px_state.proofs.Cited.{ap, arith, cycles, is_lawful_in_more, IsPassed, layout_of, length, operations}
use Rattle.px_state.proofs.Cited.{operations_before, passes_listing, refl, rules, start_in_listing, subst, sym, ◌+◌}
use Rattle.px_state.proofs.Cited.{◌<◌, ◌∙◌, ◌≡◌}
use Rattle.px_state.specs.Putting.{IsPutTo}
use Rattle.px_state.proofs.CourseLemmas.{begins}
use Rattle.px_state.proofs.OperationLemmas.{before_more, before_within, found_here, is_passed, lawful_op, op_is}
use Rattle.px_state.proofs.OperationLemmas.{put_next}
use Rattle.px_state.proofs.operations.put_step.Goals as goal

pub told-requires : goal.told-requires
told-requires c =
    let begun = c.args.begun.now in
    lawful_op c.args.scene.now begun.purpose.now.pass begun.step c.requires.here c.args.layout.now c.loop-at.at
    c.operation-m.result c.requires.layout
    (omega (arith, c.loop-at-test.true, c.count-count.ensures.count (layout_of c.args.scene.now)))
    c.operation-m.ensures is_lawful_in_more c.requires.good

pub cycles-requires-clause-lawful : goal.cycles-requires-clause-lawful
cycles-requires-clause-lawful c =
    let begun = c.args.begun.now in
    lawful_op c.args.scene.now begun.purpose.now.pass begun.step c.requires.here c.args.layout.now c.loop-at.at
    c.operation-m.result c.requires.layout
    (omega (arith, c.loop-at-test.true, c.count-count.ensures.count (layout_of c.args.scene.now)))
    c.operation-m.ensures is_lawful_in_more c.requires.good

pub loop-at-preserved : goal.loop-at-preserved
loop-at-preserved c =
    let scene = c.args.scene.now in
    let begun = c.args.begun.now in
    let l = passes_listing scene in
    let pass = begun.purpose.now.pass in
    let at = c.loop-at.at in
    let k = begun.operation + at in
    let op = c.operation-m.result in
    let before = c.loop-at.invariant in
    let low : at < length (operations scene (layout_of scene) begun.step) =
    omega (arith, c.loop-at-test.true, c.count-count.ensures.count (layout_of scene)) in
    let place : k ≡ operations_before scene pass + at = omega (arith, c.requires.operation) in
    let is = op_is scene pass begun.step c.requires.here c.args.layout.now at op c.requires.layout low
    c.operation-m.ensures in
    let here =
    found_here scene pass begun.step c.requires.here c.args.layout.now at op c.requires.layout low
    c.operation-m.ensures k place in
    let count : c.from-clock.result ≡ cycles op l.nx l.ny =
    c.from-clock.ensures ∙ (rw (c.grid-nx.ensures.columns, c.grid-nx.ensures.rows) at c.cycles.ensures.value) in
    let next : k + 1 ≡ begun.operation + (at + 1) = omega arith in
    let passed = is_passed scene pass begun.step c.requires.here at k c.loop-at.clock op begun.purpose.now low place
    is
    before.clock refl c.requires.purpose in
    let made = c.put.ensures in
    record {
      clock = omega (arith, before.clock, count, begins l k op here, ap (start_in_listing l) next);
      put = subst (λ n. IsPutTo (IsPassed scene) c.args.first n c.put.new.list) next
          (put_next (IsPassed scene) c.args.first k c.told.result c.loop-at.list c.put.new.list made.length made.put
          made.kept
          before.put (subst (IsPassed scene k) (sym c.told.ensures) passed));
      same = made.length ∙ before.same;
    }

pub overflow_add-begun : goal.overflow_add-begun
overflow_add-begun c = search (rules, before_within)

pub overflow_add-result : goal.overflow_add-result
overflow_add-result c = search (rules, before_within)

pub returns-clause-operation : goal.returns-clause-operation
returns-clause-operation c = search (rules, before_more)

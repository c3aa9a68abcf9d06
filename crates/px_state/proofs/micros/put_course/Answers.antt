use Rattle.px_state.proofs.Cited.{arith, given_by, listing_in, slice_get, Some, sym, ◌∙◌, ◌≡◌}
use Rattle.px_state.proofs.CourseLemmas.{begins}
use Rattle.px_state.proofs.PutLemmas.{put_next}
use Rattle.px_state.proofs.micros.put_course.Goals as goal

pub returns-then-end-start-clause-micros : goal.returns-then-end-start-clause-micros
returns-then-end-start-clause-micros c j within =
    let l = listing_in c.args.course.now in
    let k = given_by c.args.course.now c.loop-m.mark in
    let here : slice_get l.macros k ≡ Some c.in-Some.m = sym c.next_macro.ensures.operation ∙ c.in-Some.is in
    let made = c.put_micros-start.ensures in
    let before = c.loop-m.invariant in
    let end = rw (c.grid-grid.ensures.columns, c.grid-grid.ensures.rows) at made.end in
    put_next l c.args.first k c.in-Some.m c.loop-m.start c.put_micros-start.result c.loop-m.micros
    c.put_micros-start.new.micros here before.start end made.length before.put
    (rw (c.grid-grid.ensures.columns, c.grid-grid.ensures.rows) at made.put) made.kept j within
    (omega (arith, within, c.if-end-start.true, made.length, before.same))

pub loop-m-preserved : goal.loop-m-preserved
loop-m-preserved c =
    let l = listing_in c.args.course.now in
    let k = given_by c.args.course.now c.loop-m.mark in
    let here : slice_get l.macros k ≡ Some c.in-Some.m = sym c.next_macro.ensures.operation ∙ c.in-Some.is in
    let made = c.put_micros-start.ensures in
    let before = c.loop-m.invariant in
    let end = rw (c.grid-grid.ensures.columns, c.grid-grid.ensures.rows) at made.end in
    let given = c.in-Some.ensures.some in
    record {
      stands = c.next_macro.ensures.stands;
      start = rw given (omega (arith, end, before.start, begins l k c.in-Some.m here));
      put = put_next l c.args.first k c.in-Some.m c.loop-m.start c.put_micros-start.result c.loop-m.micros
          c.put_micros-start.new.micros here before.start end made.length before.put
          (rw (c.grid-grid.ensures.columns, c.grid-grid.ensures.rows) at made.put) made.kept;
      same = made.length ∙ before.same;
    }

use Rattle.px_state.proofs.Cited.{ap, arith, cycles, get_or, length, ListingView, ◌+◌, ◌<◌, ◌∙◌, ◌≡◌}
use Rattle.px_macro.specs.declared.operation.Macro.TheVariants as m
use Rattle.px_state.proofs.CourseLemmas.{begins, goes_on, here_in, next_here}
use Rattle.px_state.proofs.running.play_to.Goals as goal

pub returns-then-made-cycles : goal.returns-then-made-cycles
returns-then-made-cycles g c =
    let l = c.args.listing.now in
    let i = c.loop-operation.operation in
    let start = c.loop-operation.start in
    let made = c.min-made.result in
    let before = c.loop-operation.invariant in
    let items = c.deref-m-items.ensures.value ∙ ap (λ (l : ListingView). l.macros) c.listing.view_is in
    let nx : c.listing.inside.nx ≡ l.nx = ap (λ (l : ListingView). l.nx) c.listing.view_is in
    let ny : c.listing.inside.ny ≡ l.ny = ap (λ (l : ListingView). l.ny) c.listing.view_is in
    let within : i < length l.macros = rw items at c.loop-operation-test.true in
    let op = get_or l.macros i m.All in
    let here = here_in l.macros i within in
    let count : c.cycles-cycles.result ≡ cycles op l.nx l.ny = rw (items, nx, ny) at c.cycles-cycles.ensures.value in
    let end : start + made ≡ c.args.clock =
    omega (arith, c.min-made.ensures, c.from.ensures, c.if-made-cycles.true, before.low) in
    record {
      device = rw end at (goes_on g.A.Array.BITS l i made start op _ _ here (omega (arith, count, c.if-made-cycles.true))
          before.start before.at (rw items at c.make_micros.ensures.device));
      worked = record {
        slots = c.make_micros.ensures.worked.slots ∙ before.worked.slots;
        work = omega (arith, end, c.make_micros.ensures.worked.work, before.worked.work);
      };
      coming = next_here l c.args.clock i made op c.micro_at.result here (omega (arith, count, c.if-made-cycles.true))
          (omega (arith, end, before.start)) (rw (items, nx, ny) at c.micro_at.ensures.value);
      ended = tt;
    }

pub loop-operation-preserved : goal.loop-operation-preserved
loop-operation-preserved g c =
    let l = c.args.listing.now in
    let i = c.loop-operation.operation in
    let start = c.loop-operation.start in
    let made = c.min-made.result in
    let before = c.loop-operation.invariant in
    let items = c.deref-m-items.ensures.value ∙ ap (λ (l : ListingView). l.macros) c.listing.view_is in
    let nx : c.listing.inside.nx ≡ l.nx = ap (λ (l : ListingView). l.nx) c.listing.view_is in
    let ny : c.listing.inside.ny ≡ l.ny = ap (λ (l : ListingView). l.ny) c.listing.view_is in
    let within : i < length l.macros = rw items at c.loop-operation-test.true in
    let op = get_or l.macros i m.All in
    let here = here_in l.macros i within in
    let count : c.cycles-cycles.result ≡ cycles op l.nx l.ny = rw (items, nx, ny) at c.cycles-cycles.ensures.value in
    record {
      start = omega (
        arith,
        before.start,
        count,
        c.min-made.ensures,
        c.from.ensures,
        c.if-made-cycles.false,
        c.from-start.ensures,
        begins l i op here,
      );
      few = omega (
        arith,
        before.few,
        c.min-made.ensures,
        c.from.ensures,
        c.from-start.ensures,
        c.cycles-cycles.ensures.few,
      );
      low = omega (arith, before.low, c.min-made.ensures, c.from-start.ensures);
      at = rw c.from-start.ensures (goes_on g.A.Array.BITS l i made start op _ _ here
          (omega (arith, count, c.min-made.ensures, c.from.ensures)) before.start before.at
          (rw items at c.make_micros.ensures.device));
      worked = record {
        slots = c.make_micros.ensures.worked.slots ∙ before.worked.slots;
        work = omega (arith, c.from-start.ensures, c.make_micros.ensures.worked.work, before.worked.work);
      };
    }

use Rattle.px_num.proofs.Basics.{arith, rules, ◌≡◌, ◌-◌, take, None, ◌∙◌, sym, nat_tests, common_steps}
use Rattle.px_io.proofs.ToldLaws.{on_err}
use Rattle.px_asked.proofs.ReadLemmas.{least_front, seen_all, seen_more, waits_of}
use Rattle.px_asked.proofs.reading.read_part.Goals as goal

pub returns-in_err-count-clause-failed : goal.returns-in_err-count-clause-failed
returns-in_err-count-clause-failed g c failed =
    let inv = c.loop-piece.invariant in (
      c.loop-piece.text.items,
      c.in_err-count.ensures.failed _ inv.heard (search rules),
      search rules,
      seen_all c.loop-piece.search (take (c.args.limit - 1) c.loop-piece.text.items) inv.seen inv.all,
    )

pub returns-in_err-count-clause-err : goal.returns-in_err-count-clause-err
returns-in_err-count-clause-err g c = search (rules, c.in_err-count.ensures.err _ c.loop-piece.invariant.heard)

pub returns-in_err-count-clause-listened : goal.returns-in_err-count-clause-listened
returns-in_err-count-clause-listened g c =
    let inv = c.loop-piece.invariant in
    on_err _ (c.in_err-count.ensures.listened _ (waits_of _ _ _ _ _ _ inv.heard inv.seen inv.all))

pub find-part-requires : goal.find-part-requires
find-part-requires g c = grind (arith, nat_tests, common_steps, least_front, seen_more)

pub returns-then-count-eq0-clause-taken : goal.returns-then-count-eq0-clause-taken
returns-then-count-eq0-clause-taken g c =
    let inv = c.loop-piece.invariant in
    (c.in_ok-count.ensures.heard _ (waits_of _ _ _ _ _ _ inv.heard inv.seen inv.all)).taken

pub returns-then-count-eq0-clause-listens : goal.returns-then-count-eq0-clause-listens
returns-then-count-eq0-clause-listens g c =
    let inv = c.loop-piece.invariant in
    (c.in_ok-count.ensures.heard _ (waits_of _ _ _ _ _ _ inv.heard inv.seen inv.all)).listens

pub loop-piece-preserved : goal.loop-piece-preserved
loop-piece-preserved g c =
    let inv = c.loop-piece.invariant in
    let same : take c.min.result c.deref.result.now ≡ take (c.args.limit - 1) c.read_piece.new.bytes.items =
    least_front _ _ _ _ _ c.deref.ensures.value (search rules) c.min.ensures in
    let none : c.find-part.result ≡ None = search rules in
    record {
      within = search rules;
      heard = c.in_ok-count.ensures.heard _ (waits_of _ _ _ _ _ _ inv.heard inv.seen inv.all);
      calm = c.in_ok-count.ensures.calm ∙ inv.calm;
      seen = rw (sym same) (c.find-part.ensures.seen none);
      all = rw (sym same) (c.find-part.ensures.all none);
    }

use Rattle.px_num.proofs.Basics.{◌≡◌, ◌+◌, ◌-◌, ◌≤◌, ◌∙◌, inl, inr, [], ap, arith, length, take}
use Rattle.px_debug.proofs.Words.{Buffer, buffer, IsTraced, Micro, program}
use Rattle.px_debug.specs.Marks.{last_before}
use Rattle.px_debug.proofs.TraceLemmas.{kept_few, last_after, last_refilled}
use Rattle.px_debug.proofs.course.Course.forward.Goals as goal

pub walk-requires-clause-room : goal.walk-requires-clause-room
unfolding last_before
walk-requires-clause-room g c =
    let old = c.args.self.now in
    let traced : IsTraced old = elim c.requires.trace [
      | inl t ↦ t
      | inr far ↦ absurd (omega (arith, far, c.now.ensures.clock, c.if-clocks-lt-LAST.true))
    ] in
    rw traced (kept_few 32 (take old.job.place.clock (program old.job.scene)))

pub returns-then-clocks-lt-LAST-clause-trace : goal.returns-then-clocks-lt-LAST-clause-trace
unfolding last_before
returns-then-clocks-lt-LAST-clause-trace g c =
    let old = c.args.self.now in
    let traced : IsTraced old = elim c.requires.trace [
      | inl t ↦ t
      | inr far ↦ absurd (omega (arith, far, c.now.ensures.clock, c.if-clocks-lt-LAST.true))
    ] in
    let w = c.walk.ensures in
    rw (w.same.scene, w.clock)
    ((rw traced at w.trace) ∙ ap (λ q. buffer q 32) (last_after 32 (program old.job.scene) old.job.place.clock
    (c.args.target - c.now.result)))

pub returns-else-clocks-lt-LAST-clause-trace : goal.returns-else-clocks-lt-LAST-clause-trace
unfolding last_before
returns-else-clocks-lt-LAST-clause-trace g c =
    let old = c.args.self.now in
    let p = program old.job.scene in
    let from = c.args.target - 32 in
    let r = c.run_to.ensures in
    let w = c.walk-else-clocks-lt-LAST.ensures in
    let end : from + 32 ≡ c.args.target = omega (arith, c.if-clocks-lt-LAST.false) in
    let inside : from + 32 ≤ length p = omega (arith, end, c.requires.within) in
    let cleared : c.clear.new.self ≡ buffer [] 32 =
    c.clear.ensures ∙ ap (λ n. buffer [] n) (ap (λ (b : Buffer Micro). b.capacity) r.trace ∙ c.requires.capacity) in
    let t = rw (cleared, r.clock, r.same.scene) at w.trace in
    rw (w.same.scene, r.same.scene, w.clock, r.clock)
    (t ∙ ap (λ q. buffer q 32) (last_refilled 32 p from 32 inside (omega arith)))

use Rattle.px_num.proofs.Basics.{◌≡◌, ◌+◌, ap, cond, refl, rules, sym, ◌∙◌}
use Rattle.px_sched.specs.StepCursors.{opens_literal}
use Rattle.px_sched.proofs.StandingLemmas.{stands_behind}
use Rattle.px_sched.proofs.StandingLemmas.{step_found}
use Rattle.px_sched.proofs.step_cursor.StepCursor.next_step.Goals as goal

pub returns-in-Some-clause-step : goal.returns-in-Some-clause-step
returns-in-Some-clause-step c = search (rules, step_found)

pub returns-in-Some-clause-stands : goal.returns-in-Some-clause-stands
returns-in-Some-clause-stands c =
    let next = rw (c.as_slice.ensures.value, c.requires.products) at c.next-self.ensures in
    let more : c.from.result ≡ cond (opens_literal c.in-Some.step) 1 0 = search rules in
    stands_behind c.args.scene.now c.args.self.now c.in-Some.step c.requires.stands (sym c.in-Some.is ∙ c.step.ensures)
    _ refl (ap (λ n. c.args.self.now.literals + n) more) next.left next.stage

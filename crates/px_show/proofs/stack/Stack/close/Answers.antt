use Rattle.px_num.proofs.Basics.{arith}
use Rattle.px_show.proofs.StackLemmas.{closes_sides, both_ok}
use Rattle.px_show.proofs.stack.Stack.close.Goals as goal

pub returns-in-Some : goal.returns-in-Some
returns-in-Some c names read is =
    both_ok c.push_side.result c.push_side.ensures.parts c.push_side.ensures.steps
    (λ put more. closes_sides names _ _ _ _ read c.in-Some.op c.in-Some.nesting is
    (rw c.as_slice.ensures.value at c.in-Some.ensures.value) (rw c.as_slice.ensures.value at c.in-Some.ensures.four)
    (omega (arith, c.args.self.now.steps.small, c.args.self.now.steps.ok.0, c.args.self.now.steps.ok.1))
    (grind arith) more)

use Rattle.px_sched.proofs.step.Step.next.Goals as goal

pub returns-in-Begin : goal.returns-in-Begin
returns-in-Begin c = rw c.in-Begin.is (c.turn_from.ensures c.args.q)

pub returns-in-Turn : goal.returns-in-Turn
returns-in-Turn c = rw c.in-Turn.is (c.turn_from-in-Turn.ensures c.args.q)

pub returns-in-Close : goal.returns-in-Close
returns-in-Close c = rw c.in-Close.is (c.judge_from-in-Close.ensures c.args.scene.now c.args.q)

pub returns-in-Confirm : goal.returns-in-Confirm
returns-in-Confirm c = rw c.in-Confirm.is (c.judge_from.ensures c.args.scene.now c.args.q)

use Rattle.px_num.proofs.Basics.{arith, common_steps}
use Rattle.px_sched.proofs.step.drop_from.Goals as goal

pub returns-else-face-face_count : goal.returns-else-face-face_count
returns-else-face-face_count c =
    let judged = c.judge_from.ensures c.args.scene.now c.args.q in
    record { left = grind (arith, common_steps); step = judged.step; faces = judged.faces }

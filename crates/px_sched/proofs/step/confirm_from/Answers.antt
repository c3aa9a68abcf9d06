use Rattle.px_num.proofs.Basics.{◌≡◌, ◌==◌, ◌++◌, ◌∙◌, Bool, true, ap, arith, if◌then◌else◌, nat_tests, []}
use Rattle.px_sched.proofs.Words.{confirm, judged_from}
use Rattle.px_sched.proofs.step.confirm_from.Goals as goal

pub returns-then-fraction_bits-eq0 : goal.returns-then-fraction_bits-eq0
returns-then-fraction_bits-eq0 c =
    let scene = c.args.scene.now in
    let none : (scene.fraction_bits == 0) ≡ true = grind (arith, nat_tests) in
    let judged = c.judge_from.ensures scene c.args.q in
    record {
      left = ap (λ (b : Bool). (if b then [] else confirm scene c.args.q) ++ judged_from scene c.args.rs.now 0) none
          ∙ judged.left;
      step = judged.step;
      faces = judged.faces;
    }

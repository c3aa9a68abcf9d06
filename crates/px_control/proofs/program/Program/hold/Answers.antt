use Rattle.px_num.proofs.Basics.{All-push, arith}
use Rattle.px_control.proofs.Words.{all_made, IsLawful, layout_of, need_of}
use Rattle.px_control.proofs.WholeLemmas.{made_more}
use Rattle.px_control.proofs.program.Program.hold.Goals as goal

pub loop-place-preserved : goal.loop-place-preserved
loop-place-preserved c =
    let before = c.loop-place.invariant in
    let held = c.loop-place.held.items in
    let past = c.in-Some.ensures in
    record {
      stands = past.stands;
      micro = past.micro;
      within = λ low. past.within (before.within low);
      operation = omega (arith, past.operation, before.operation, c.push.ensures.len);
      lawful = rw c.push.ensures.items (All-push (λ m. IsLawful m (need_of (layout_of c.args.self.now)))
          held c.in-Some.m
          before.lawful past.lawful);
      leads = λ bits d at. rw (c.push.ensures.items, made_more held c.in-Some.m d)
          (past.leads bits (all_made held d) (before.leads bits d at));
    }

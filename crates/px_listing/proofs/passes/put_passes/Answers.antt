use Rattle.px_num.proofs.Basics.{◌∙◌, sym}
use Rattle.px_listing.proofs.Words.{on_err, passes}
use Rattle.px_listing.proofs.PassesLemmas.{puts_next, puts_next_front}
use Rattle.px_listing.proofs.passes.put_passes.Goals as goal

pub loop-m-preserved : goal.loop-m-preserved
loop-m-preserved g c = record {
  stands = c.next_macro.ensures.stands;
  put = puts_next _ _ _ _ _ _ _ (passes c.args.scene.now) c.loop-m.cursor.given _ c.in-Some.m
      (sym c.next_macro.ensures.operation ∙ c.in-Some.is)
      c.in-Some.ensures.some (c.as_str.ensures.value ∙ c.macro_line.ensures) c.loop-m.invariant.put
      c.in_ok-put.ensures.ok;
  calm = c.in_ok-put.ensures.cause.calm ∙ c.loop-m.invariant.calm;
}

pub returns-in_err-put-clause-err : goal.returns-in_err-put-clause-err
returns-in_err-put-clause-err g c =
    on_err _ (puts_next_front _ _ _ _ _ _ (passes c.args.scene.now) c.loop-m.cursor.given c.in-Some.m
    (sym c.next_macro.ensures.operation ∙ c.in-Some.is)
    (c.as_str.ensures.value ∙ c.macro_line.ensures) c.loop-m.invariant.put c.in_err-put.ensures.err)

use Rattle.px_num.proofs.Basics.{ap, ◌∙◌}
use Rattle.px_sample.specs.Countings.{shown_within, shown_together}
use Rattle.px_sample.proofs.DrawingLemmas.{most_together, rows_more}
use Rattle.px_sample.proofs.drawing.count_shown.Goals as goal

pub loop-y-preserved : goal.loop-y-preserved
loop-y-preserved g c =
    let scene = c.args.scene.now in
    record {
      shown = c.plus-shown.ensures ∙ ap (λ shown. shown_together shown c.shown_in_row.result) c.loop-y.invariant.shown
          ∙ ap (λ one. shown_together (shown_within scene scene.width c.loop-y.y) one) c.shown_in_row.ensures.shown
          ∙ rows_more scene scene.width c.loop-y.y;
      most = rw c.plus-shown.ensures (most_together c.loop-y.shown c.shown_in_row.result 8589934592 c.loop-y.y
          c.loop-y.invariant.most c.shown_in_row.ensures.most);
    }

use Rattle.px_num.proofs.Basics.{◌*◌, ap, ◌∙◌}
use Rattle.px_frame.specs.MeanSums.{block_sums, mean_of, strip_colour}
use Rattle.px_frame.proofs.means.mean_at.Goals as goal

pub returns : goal.returns
returns c =
    let colour = strip_colour c.args.fine.now c.args.strip.now in
    c.mean.ensures ∙ ap (mean_of c.args.s) (c.block_sums.ensures.sums
    ∙ ap (λ k. block_sums colour k (k * c.args.x) (k * c.args.y) k) c.parts-across.ensures.value)

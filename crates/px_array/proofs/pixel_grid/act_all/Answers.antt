use Rattle.px_num.proofs.Basics.{◌≡◌, ◌^◌, ◌+◌, length, slice_index_or, arith, ◌∙◌}
use Rattle.px_num.proofs.ListLaws.{is_tabulate}
use Rattle.px_array.specs.Acts.{after_act}
use Rattle.px_tree.specs.Nodes.{leaf_output}
use Rattle.px_array.specs.Arrays.{no_pixel}
use Rattle.px_array.proofs.pixel_grid.act_all.Goals as goal

pub returns : goal.returns
returns g c =
    let tree = c.args.tree.now in
    let whole : length c.loop-place.pixels ≡ 2 ^ (tree.nx + tree.ny) = c.loop-place.auto.pixels ∙ c.requires.whole in
    is_tabulate c.loop-place.pixels _
    (λ k. after_act c.args.act (leaf_output tree k) (slice_index_or c.args.pixels.now k no_pixel)) no_pixel whole
    (λ k in_grid. c.loop-place.invariant.done k (omega (arith, whole)))

use Rattle.px_num.proofs.Basics.{◌≡◌, ◌+◌, ◌∙◌, ap, arith}
use Rattle.px_tree.specs.Feeds.{fed_form}
use Rattle.px_tree.proofs.LeafLemmas.{leaf_gives_tree_bit}
use Rattle.px_tree.proofs.tree_bit.value_bit.Goals as goal

pub returns-clause-bit : goal.returns-clause-bit
returns-clause-bit g c =
    let form = c.args.form.now in
    let nx = c.args.nx in
    let ny = c.args.ny in
    let feeds : c.args.t + nx + ny ≡ c.args.t + (nx + ny) = omega arith in
    let state = c.feed_form.ensures.state ∙ ap (fed_form form nx ny) feeds in
    grind (arith, leaf_gives_tree_bit)

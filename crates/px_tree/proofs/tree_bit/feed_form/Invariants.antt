use Rattle.px_num.proofs.Basics.{◌≡◌}
use Rattle.px_tree.specs.Feeds.{fed_form}
use Rattle.px_tree.proofs.tree_bit.feed_form.Given as goal

abbrev pub invariant-loop-s : goal.invariant-loop-s
invariant-loop-s g l = g.T.Tree.state l.tree ≡ fed_form l.form l.nx l.ny l.s

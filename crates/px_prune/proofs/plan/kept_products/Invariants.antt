use Rattle.px_num.proofs.Basics.{◌≡◌}
use Rattle.px_prune.proofs.plan.kept_products.Given as goal

abbrev pub invariant-loop-product : goal.invariant-loop-product
invariant-loop-product l = l.kept.items ≡ l.yielded

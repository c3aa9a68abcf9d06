use Rattle.px_num.proofs.Basics.{◌≡◌, take}
use Rattle.px_c.specs.Literals.{all_literals}
use Rattle.px_c.proofs.products.all_literals.Given as goal

abbrev pub invariant-loop-product : goal.invariant-loop-product
invariant-loop-product l = l.all.items ≡ all_literals (take l.product-index l.products)

use Rattle.px_num.proofs.Basics.{◌≡◌, ◌++◌, map, take}
use Rattle.px_c.specs.Literals.{barred_literal}
use Rattle.px_c.proofs.products.push_barred.Given as goal

abbrev pub invariant-loop-solid : goal.invariant-loop-solid
invariant-loop-solid l = l.all.items ≡ l.fn.all.items ++ map barred_literal (take l.solid-index l.solids)

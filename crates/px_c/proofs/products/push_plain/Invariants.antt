use Rattle.px_num.proofs.Basics.{◌≡◌, ◌++◌, map, take}
use Rattle.px_c.specs.Literals.{plain_literal}
use Rattle.px_c.proofs.products.push_plain.Given as goal

abbrev pub invariant-loop-solid : goal.invariant-loop-solid
invariant-loop-solid l = l.all.items ≡ l.fn.all.items ++ map plain_literal (take l.solid-index l.solids)

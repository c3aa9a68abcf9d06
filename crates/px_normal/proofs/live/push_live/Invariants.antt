use Rattle.px_num.proofs.Basics.{◌≡◌, ◌++◌, take, filter}
use Rattle.px_normal.specs.Live.{boxes_in, is_live}
use Rattle.px_normal.proofs.live.push_live.Given as goal

abbrev pub invariant-loop-product : goal.invariant-loop-product
invariant-loop-product l =
    l.list.items ≡ l.initial.list.items ++ filter (is_live (boxes_in l.boxes)) (take l.product-index l.products)

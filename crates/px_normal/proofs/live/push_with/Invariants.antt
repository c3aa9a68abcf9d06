use Rattle.px_num.proofs.Basics.{◌≡◌, ◌++◌, take, map, filter}
use Rattle.px_normal.proofs.Words.{both, boxes_in, is_live, products_in}
use Rattle.px_normal.proofs.live.push_with.Given as goal

abbrev pub invariant-loop-q : goal.invariant-loop-q
invariant-loop-q l = l.list.items ≡ l.initial.list.items ++ filter (is_live (boxes_in l.boxes))
    (map (both l.p.product) (products_in (take l.q-index l.second)))

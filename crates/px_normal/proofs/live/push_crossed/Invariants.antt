use Rattle.px_num.proofs.Basics.{◌≡◌, ◌++◌, take, filter}
use Rattle.px_normal.proofs.Words.{boxes_in, crossed, is_live, products_in}
use Rattle.px_normal.proofs.live.push_crossed.Given as goal

abbrev pub invariant-loop-p : goal.invariant-loop-p
invariant-loop-p l = l.list.items ≡ l.initial.list.items ++ filter (is_live (boxes_in l.boxes))
    (crossed (take l.p-index l.first) (products_in l.second.items))

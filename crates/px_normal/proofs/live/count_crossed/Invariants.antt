use Rattle.px_num.proofs.Basics.{◌≡◌, ◌≤◌, ◌*◌, length, take, filter}
use Rattle.px_normal.proofs.Words.{boxes_in, crossed, is_live, MAX_PRODUCTS, products_in}
use Rattle.px_normal.proofs.live.count_crossed.Given as goal

abbrev pub invariant-loop-p : goal.invariant-loop-p
invariant-loop-p l = record {
  count : l.count
      ≡ length (filter (is_live (boxes_in l.boxes)) (crossed (take l.p-index l.first) (products_in l.second.items)));
  most : l.count ≤ MAX_PRODUCTS * l.p-index;
}

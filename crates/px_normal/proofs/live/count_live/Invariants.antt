use Rattle.px_num.proofs.Basics.{◌≡◌, ◌≤◌, length, take, filter}
use Rattle.px_normal.specs.Live.{boxes_in, is_live}
use Rattle.px_normal.proofs.live.count_live.Given as goal

abbrev pub invariant-loop-product : goal.invariant-loop-product
invariant-loop-product l = record {
  count : l.count ≡ length (filter (is_live (boxes_in l.boxes)) (take l.product-index l.products));
  most : l.count ≤ l.product-index;
}

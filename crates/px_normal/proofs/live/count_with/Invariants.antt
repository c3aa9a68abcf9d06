use Rattle.px_num.proofs.Basics.{◌≡◌, ◌≤◌, length, take, map, filter}
use Rattle.px_normal.proofs.Words.{both, boxes_in, is_live, products_in}
use Rattle.px_normal.proofs.live.count_with.Given as goal

abbrev pub invariant-loop-q : goal.invariant-loop-q
invariant-loop-q l = record {
  count : l.count
      ≡ length (filter (is_live (boxes_in l.boxes)) (map (both l.p.product) (products_in (take l.q-index l.second))));
  most : l.count ≤ l.q-index;
}

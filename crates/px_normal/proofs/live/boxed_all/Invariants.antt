use Rattle.px_num.proofs.Basics.{◌≡◌, take, All}
use Rattle.px_normal.proofs.Words.{boxes_in, IsBoxed, products_in}
use Rattle.px_normal.proofs.live.boxed_all.Given as goal

abbrev pub invariant-loop-product : goal.invariant-loop-product
invariant-loop-product l = record {
  products : products_in l.list.items ≡ take l.product-index l.products;
  boxed : All (IsBoxed (boxes_in l.boxes)) l.list.items;
}

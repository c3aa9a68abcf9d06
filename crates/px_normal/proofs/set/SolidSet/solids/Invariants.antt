use Rattle.px_num.proofs.Basics.{◌≡◌, ◌≤◌, filter}
use Rattle.arrayvec.specs.ArrayVec.{array_vec_len}
use Rattle.px_normal.specs.Sets.{has, below}
use Rattle.px_normal.proofs.set.SolidSet.solids.Given as goal

abbrev pub invariant-loop-solid : goal.invariant-loop-solid
invariant-loop-solid l = record {
  solids : l.list.items ≡ filter (has l.self) (below l.solid);
  room : array_vec_len l.list ≤ l.solid;
  few : l.solid ≤ 256;
}

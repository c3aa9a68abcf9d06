use Rattle.px_num.proofs.Basics.{◌≡◌, ◌*◌}
use Rattle.arrayvec.specs.ArrayVec.{array_vec_len}
use Rattle.px_frame.specs.Strips.{HoldsRow}
use Rattle.px_frame.proofs.strip.read_rows.Given as goal

abbrev pub invariant-loop-x : goal.invariant-loop-x
invariant-loop-x g l = record {
  holds : HoldsRow l.numbers.items l.field (g.A.Array.view l.array).device.state l.x l.top;
  size : array_vec_len l.numbers ≡ 8 * l.x;
}

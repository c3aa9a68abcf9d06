use Rattle.px_num.proofs.Basics.{arith, get_or-set_other, get_or-set_same, below_more, set}
use Rattle.px_rows.proofs.rows.add_row.Goals as goal

pub loop-w-preserved : goal.loop-w-preserved
loop-w-preserved c = record {
  added = grind (arith, below_more, set, get_or-set_other, get_or-set_same);
  carried = grind (arith, below_more, set, get_or-set_other, get_or-set_same);
  rest = grind (arith, get_or-set_other);
  rest_carry = grind (arith, get_or-set_other);
}

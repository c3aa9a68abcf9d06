use Rattle.px_num.proofs.Basics.{◌≡◌, ◌+◌, ◌++◌, take}
use Rattle.px_sched.proofs.Words.{array_vec_len, literals_of}
use Rattle.px_sched.proofs.literal.push_literals.Given as goal

abbrev pub invariant-loop-solid : goal.invariant-loop-solid
invariant-loop-solid l = record {
  items : l.list.items ≡ l.initial.list.items ++ literals_of l.plain (take l.solid-index l.indices);
  len : array_vec_len l.list ≡ array_vec_len l.initial.list + l.solid-index;
}

use Rattle.px_num.proofs.Basics.{◌≡◌, ◌≤◌, ◌^◌, nat_le, count_by, range_with_len}
use Rattle.px_sched.proofs.layout.bit_length.Given as goal

abbrev pub invariant-loop-bit : goal.invariant-loop-bit
invariant-loop-bit l = record {
  counted : l.bits ≡ count_by (λ t. nat_le (2 ^ t) l.number) (range_with_len 0 l.bit);
  room : l.bits ≤ l.bit;
}

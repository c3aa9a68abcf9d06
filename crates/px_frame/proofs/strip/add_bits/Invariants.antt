use Rattle.px_num.proofs.Basics.{◌≡◌, ◌+◌, ◌<◌, ◌≤◌, ℕ, get_or, if◌then◌else◌}
use Rattle.px_num.specs.Bits.{nat_bit}
use Rattle.px_frame.proofs.strip.add_bits.Given as goal

abbrev pub invariant-loop-j : goal.invariant-loop-j
invariant-loop-j l = record {
  done : (i : ℕ) → i < l.j → get_or l.numbers i 0 ≡ get_or l.fn.numbers i 0 + (if nat_bit l.bits i then l.value else 0);
  rest : (i : ℕ) → l.j ≤ i → get_or l.numbers i 0 ≡ get_or l.fn.numbers i 0;
}

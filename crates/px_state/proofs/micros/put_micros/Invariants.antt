use Rattle.px_state.proofs.Cited.{get_or, length, micro_at, ℕ, ◌+◌, ◌-◌, ◌<◌, ◌≡◌, ◌≤◌}
use Rattle.px_state.specs.Packing.{packed}
use Rattle.px_state.proofs.micros.put_micros.Given as goal

abbrev pub invariant-loop-clock : goal.invariant-loop-clock
invariant-loop-clock l = record {
  put : (j : ℕ) → j < length l.micros → l.start ≤ l.first + j → l.first + j < l.clock
      → get_or l.micros j 0 ≡ packed (micro_at l.m l.nx l.ny (l.first + j - l.start));
  kept : (j : ℕ) → l.first + j < l.start → get_or l.micros j 0 ≡ get_or l.fn.micros j 0;
  same : length l.micros ≡ length l.fn.micros;
  low_is : l.low ≤ l.clock;
}

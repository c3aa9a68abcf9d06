use Rattle.px_num.proofs.Basics.{◌≡◌, ℕ, ◌<◌, ◌/◌, ◌%◌, ◌^◌, [], length, get_or}
use Rattle.px_rows.proofs.LaneWords.{bit_of, nat_bit, value_at}
use Rattle.px_rows.proofs.value_blocks.block_values.Given as goal

abbrev pub invariant-loop-k : goal.invariant-loop-k
invariant-loop-k l = record {
  done : (t p : ℕ) → t < length l.fn.words → p < 512 → p / 64 < l.k → nat_bit (get_or (get_or l.words t []) (p / 64) 0)
      (p % 64) ≡ bit_of (value_at l.form (p / 2 ^ l.ny) (p % 2 ^ l.ny)) t;
  whole : length l.words ≡ length l.fn.words;
}

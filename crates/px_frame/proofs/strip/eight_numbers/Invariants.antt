use Rattle.px_num.proofs.Basics.{◌≡◌, ◌+◌, ◌%◌, ◌^◌, ◌<◌, ℕ, get_or}
use Rattle.px_frame.proofs.Words.{memory_bit, number_from_bits}
use Rattle.px_frame.proofs.strip.eight_numbers.Given as goal

abbrev pub invariant-loop-t : goal.invariant-loop-t
invariant-loop-t g l =
    let state = (g.A.Array.view l.array).device.state
    in record {
      numbers : (j : ℕ) → j < 8 → l.place % 64 + j < 64
          → get_or l.numbers j 0 ≡ number_from_bits (λ s. memory_bit state (l.field.at + s) (l.place + j)) l.t;
      small : (j : ℕ) → j < 8 → get_or l.numbers j 0 < 2 ^ l.t;
      value : l.value ≡ 2 ^ l.t;
    }

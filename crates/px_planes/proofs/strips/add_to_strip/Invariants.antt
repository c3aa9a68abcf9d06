use Rattle.px_num.proofs.Basics.{◌≡◌, ℕ, pos, false, ◌+ℤ◌, ◌<◌, ◌≤◌, ◌+◌, ◌*◌, ◌/◌, ◌%◌, ◌^◌, [], length, get_or}
use Rattle.px_planes.proofs.Words.{bit_of, carry_from, IsWorkedIn, nat_bit, number_in, offset, pixel_in, row_bit}
use Rattle.px_planes.proofs.Words.{stored_bits, value_at}
use Rattle.px_planes.proofs.strips.add_to_strip.Given as goal

abbrev pub invariant-loop-t : goal.invariant-loop-t
invariant-loop-t l =
    let n = length l.fn.planes.enable
    in let value = λ (p : ℕ). value_at l.form (p / 2 ^ l.ny) (p % 2 ^ l.ny)
    in let number = λ (p : ℕ). pos (number_in l.field (pixel_in l.fn.planes p).memory)
    in record {
      worked : IsWorkedIn 32768 l.strip n (λ p x. stored_bits l.field.at (λ s. bit_of (value p +ℤ number p) s) l.t x)
          l.fn.planes l.planes;
      first : (q : ℕ) → q < 32768 → row_bit l.first q ≡ carry_from false (value (32768 * l.strip + q))
          (offset l.form l.ny 512) l.t;
      second : (p : ℕ) → p < 64 * n → p / 32768 ≡ l.strip
          → row_bit l.second (p % 32768) ≡ carry_from false (value p) (number p) l.t;
      first_words : length l.first ≡ 512;
      second_words : length l.second ≡ 512;
      behind : (s i : ℕ) → s < l.t → i < 512 → nat_bit (get_or (get_or l.values s []) (i / 64) 0) (i % 64)
          ≡ bit_of (value (512 * (64 * (l.strip + 1)) + i)) s;
      rest : (s : ℕ) → l.t ≤ s → get_or l.values s [] ≡ get_or l.fn.values s [];
      whole : length l.values ≡ length l.fn.values;
    }

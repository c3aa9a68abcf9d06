-- Values that grow by a step from block to block, bit by bit.
use Rattle.px_num.proofs.Basics.{◌≡◌, ℕ, zero, suc, ℤ, false, ◌+ℤ◌, ◌+◌, ◌*◌, ◌/◌, ◌%◌, ◌^◌, ◌<◌, ◌≤◌, List, get_or}
use Rattle.px_num.proofs.Basics.{arith}
use Rattle.px_planes.proofs.Words.{bit_of, carry_from, Linear, nat_bit, offset, row_bit, sum_bit, value_at, value_in}
use Rattle.px_rows.proofs.ValueBlockLaws.{value_behind}

stepped_bit : (a carry : List ℕ) (step : ℤ) (t n : ℕ) (v : ℕ → ℕ → ℤ)
    → ((i : ℕ) → i < 512 → nat_bit (get_or a (i / 64) 0) (i % 64) ≡ bit_of (v 0 i) t)
    → ((b i : ℕ) → b < n → i < 512 → row_bit carry (512 * b + i) ≡ carry_from false (v b i) step t)
    → ((b i : ℕ) → v (suc b) i ≡ v b i +ℤ step)
    → (b i : ℕ) → b ≤ n → i < 512 → value_in a (bit_of step t) carry b i ≡ bit_of (v b i) t
stepped_bit a carry step t n v first carried next zero i within small = first i small
stepped_bit a carry step t n v first carried next (suc b) i within small =
    grind (arith, sum_bit, stepped_bit a carry step t n v first carried next b i (omega arith) small)

-- the values in the blocks of a strip, and in the block behind it
pub value_in_strip : (form : Linear) (ny strip t : ℕ) (a carry : List ℕ) → ny ≤ 9
    → ((i : ℕ) → i < 512 → nat_bit (get_or a (i / 64) 0) (i % 64)
    ≡ bit_of (value_at form ((512 * (64 * strip) + i) / 2 ^ ny) ((512 * (64 * strip) + i) % 2 ^ ny)) t)
    → ((q : ℕ) → q < 32768 → row_bit carry q
    ≡ carry_from false (value_at form ((32768 * strip + q) / 2 ^ ny) ((32768 * strip + q) % 2 ^ ny))
    (offset form ny 512) t)
    → (b i : ℕ) → b ≤ 64 → i < 512 → value_in a (bit_of (offset form ny 512) t) carry b i
    ≡ bit_of (value_at form ((512 * (64 * strip + b) + i) / 2 ^ ny) ((512 * (64 * strip + b) + i) % 2 ^ ny)) t
value_in_strip form ny strip t a carry low first carried =
    let value = λ (p : ℕ). value_at form (p / 2 ^ ny) (p % 2 ^ ny) in
    stepped_bit a carry (offset form ny 512) t 64 (λ b i. value (512 * (64 * strip + b) + i))
    (λ i small. let head : 64 * strip + 0 ≡ 64 * strip = omega arith in rw head (first i small))
    (λ b i within small.
    let place : 512 * (64 * strip + b) + i ≡ 32768 * strip + (512 * b + i) = omega arith in
    rw place (carried (512 * b + i) (omega arith)))
    (λ b i.
    let next : 64 * strip + suc b ≡ 64 * strip + b + 1 = omega arith in
    rw next (value_behind form ny (64 * strip + b) i low))

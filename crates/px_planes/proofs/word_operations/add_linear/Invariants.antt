use Rattle.px_num.proofs.Basics.{◌≡◌, ℕ, pos, ◌+ℤ◌, ◌<◌, ◌*◌, ◌/◌, ◌%◌, length}
use Rattle.px_planes.proofs.Words.{bit_of, HasCarries, IsWorked, number_in, offset, pixel_in, stored_bits}
use Rattle.px_planes.proofs.word_operations.add_linear.Given as goal

abbrev pub invariant-loop-t : goal.invariant-loop-t
invariant-loop-t l =
    let n = length l.fn.planes.enable
    in let number = λ (p : ℕ). pos (number_in l.field (pixel_in l.fn.planes p).memory)
    in record {
      worked : IsWorked l.w n
          (λ p x. stored_bits l.field.at (λ s. bit_of ((offset l.values.form.now l.values.ny (p % 64) +ℤ l.base) +ℤ number p) s) l.t x)
          l.fn.planes l.planes;
      carries : (p : ℕ) → p < 64 * n → p / 64 ≡ l.w
          → HasCarries l.carries (p % 64) (offset l.values.form.now l.values.ny (p % 64)) l.base (number p) l.t;
    }

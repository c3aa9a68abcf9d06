use Rattle.px_num.proofs.Basics.{◌≡◌, ℕ, ◌*◌, ◌/◌, ◌%◌, ◌^◌, ◌<◌, ◌≤◌, length}
use Rattle.px_planes.proofs.Words.{AddLinear, after_macro, AreBlockValues, bits_of, IsLike, pixel_in}
use Rattle.px_planes.proofs.strips.add_in_strips.Given as goal

abbrev pub invariant-loop-strip : goal.invariant-loop-strip
invariant-loop-strip l =
    let n = length l.fn.planes.enable
    in record {
      done : (p : ℕ) → p < 64 * n → p / 32768 < l.strip
          → bits_of (pixel_in l.planes p) ≡ after_macro (AddLinear l.form l.field) (p / 2 ^ l.ny) (p % 2 ^ l.ny)
          (bits_of (pixel_in l.fn.planes p));
      rest : (p : ℕ) → p < 64 * n → l.strip ≤ p / 32768 → pixel_in l.planes p ≡ pixel_in l.fn.planes p;
      like : IsLike n l.fn.planes l.planes;
      values : AreBlockValues l.form l.ny (64 * l.strip) l.field.len l.values;
      long : length l.values ≡ l.field.len;
    }

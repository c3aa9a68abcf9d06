use Rattle.px_num.proofs.Basics.{◌≡◌, ℕ, ◌*◌, ◌/◌, ◌%◌, ◌^◌, ◌<◌, ◌≤◌, length}
use Rattle.px_planes.proofs.Words.{after_macro, bits_of, IsLike, pixel_in}
use Rattle.px_planes.proofs.operating.operate_words.Given as goal

abbrev pub invariant-loop-w : goal.invariant-loop-w
invariant-loop-w l =
    let n = length l.fn.planes.enable
    in record {
      done : (p : ℕ) → p < 64 * n → p / 64 < l.w → bits_of (pixel_in l.planes p) ≡ after_macro l.m (p / 2 ^ l.ny)
          (p % 2 ^ l.ny) (bits_of (pixel_in l.fn.planes p));
      rest : (p : ℕ) → p < 64 * n → l.w ≤ p / 64 → pixel_in l.planes p ≡ pixel_in l.fn.planes p;
      like : IsLike n l.fn.planes l.planes;
    }

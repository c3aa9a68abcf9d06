-- What a number that passes no limit is.
use Rattle.px_num.proofs.Basics.{◌≡◌, ℤ, ◌≤ℤ◌, None, arith, ints}
use Rattle.px_show.specs.Judged.{past}

pub within : {K : Type 0} (kind : K) (low high z : ℤ) → past kind low high z ≡ None → (low ≤ℤ z) × (z ≤ℤ high)
within kind low high z e = (grind (arith, ints), grind (arith, ints))

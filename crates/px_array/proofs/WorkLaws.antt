-- The clocks that an array made, and its work, which does not stop at the greatest u64. Upper crates cite them.
use Rattle.px_num.proofs.Basics.{◌≡◌, ℕ, ◌+◌, ◌^◌, ◌<◌, ◌∙◌, arith, refl}
use Rattle.px_array.specs.Slots.{ArrayView, HasRun, HasWorked, IsRunOnce}

-- an array that stays as it is made no clocks
pub run_none : (view : ArrayView) → HasRun view view
run_none view = record { later = omega arith; worked = record { slots = refl; work = omega arith } }

pub run_on : (before now after : ArrayView) → HasRun before now → HasRun now after → HasRun before after
run_on before now after one other = record {
  later = omega (arith, one.later, other.later);
  worked = record {
    slots = other.worked.slots ∙ one.worked.slots;
    work = omega (arith, one.later, other.later, one.worked.work, other.worked.work);
  };
}

-- an array that was run once is run once by clocks more, if a u64 can count them all
pub still_once : (clocks : ℕ) (before now : ArrayView) → HasWorked clocks before now → IsRunOnce before
    → now.device.clocks ≡ before.device.clocks + clocks → now.device.clocks < 2 ^ 64 → IsRunOnce now
still_once clocks before now made once counted few = record {
  slots = made.slots ∙ once.slots;
  work = omega (arith, made.work, once.work, counted, few);
}

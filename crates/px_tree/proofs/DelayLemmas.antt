-- Bits that come later.
use Rattle.px_num.proofs.Basics.{◌≡◌, ℕ, zero, suc, ◌+◌, ◌-◌, ◌^◌, ◌<◌, ℤ, pos, negsuc, ◌+ℤ◌, ◌*ℤ◌, false, refl, sym}
use Rattle.px_num.proofs.Basics.{ap, ◌∙◌, arith, inl, inr, cases_lt, ints}
use Rattle.px_num.specs.Bits.{bit_of}
use Rattle.px_tree.specs.Feeds.{delayed_bit}
use Rattle.px_num.proofs.AdderLaws.{double_bit, double_lowest}
use Rattle.px_num.proofs.TruthLaws.{lt_false, lt_true}
use Rattle.px_num.proofs.FormLaws.{times_sum}
use Rattle.px_tree.proofs.PlaceLaws.{power_next}

-- before its delay a bit is 0, and then it is one of the integer's
pub delayed_before : (delay : ℕ) (v : ℤ) (s : ℕ) → s < delay → delayed_bit delay v s ≡ false
delayed_before delay v s before = rw (lt_true s delay before) refl

pub delayed_after : (delay : ℕ) (v : ℤ) (s t : ℕ) → s ≡ t + delay → delayed_bit delay v s ≡ bit_of v t
delayed_after delay v s t e = grind (arith, lt_false)

times_one : (v : ℤ) → v *ℤ pos (2 ^ 0) ≡ v
times_one (pos k) = omega (arith, ints)
times_one (negsuc k) = omega (arith, ints)

pub times_double : (v : ℤ) (e : ℕ) → v *ℤ pos (2 ^ suc e) ≡ (v *ℤ pos (2 ^ e)) +ℤ (v *ℤ pos (2 ^ e))
times_double v e = grind (arith, power_next, times_sum)

-- a delay may be counted from any feed on
delayed_from : (v : ℤ) (delay s k e t : ℕ) → delay ≡ e + k → s ≡ t + k → delayed_bit delay v s ≡ delayed_bit e v t
delayed_from v delay s k e t delay_is s_is = grind (arith, cases_lt, delayed_before, delayed_after)

-- a delayed bit is a bit of the integer that was moved up
moved_up : (e : ℕ) (v : ℤ) (s : ℕ) → delayed_bit e v s ≡ bit_of (v *ℤ pos (2 ^ e)) s
moved_up zero v s = delayed_after zero v s s (omega arith) ∙ ap (λ z. bit_of z s) (sym (times_one v))
moved_up (suc e) v zero = grind (arith, delayed_before, zero, double_lowest, times_double)
moved_up (suc e) v (suc s) = grind (arith, delayed_from, double_bit, times_double, moved_up e v s)

-- a longer delay is a shorter one of the integer moved up by the rest
pub delayed_more : (delay k e : ℕ) (v : ℤ) (s : ℕ) → delay ≡ e + k → delayed_bit delay v s
    ≡ delayed_bit k (v *ℤ pos (2 ^ e)) s
delayed_more delay k e v s sum = elim (cases_lt s k) [
  | inl before ↦ delayed_before delay v s (omega arith) ∙ sym (delayed_before k (v *ℤ pos (2 ^ e)) s before)
  | inr after ↦
      let all : s ≡ (s - k) + k = omega arith in
      delayed_from v delay s k e (s - k) sum all
      ∙ (moved_up e v (s - k) ∙ sym (delayed_after k (v *ℤ pos (2 ^ e)) s (s - k) all))
]
